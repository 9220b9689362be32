-- Two answers over the same files, compared part by part.
use Rattle.std.proofs.Common.{◌≡◌, ℕ, List, Some, None, ap, sym, ◌∙◌, refl, subst, inl, inr}
use Rattle.std.specs.Prelude.{◌≢◌, ◌⊎◌}
use Rattle.rwsp_io.specs.Told.{Told, Silent, Bytes}
use Rattle.rwsp_terms.specs.Instance.{Instance}
use Rattle.rwsp_model.specs.Validity.{KeepsLimits}
use Rattle.rwsp_file.specs.Spelling.{SpellsProblem}
use Rattle.rwsp_file.specs.Laws.{TextsSpellOne, TextsSpellOrFail}
use Rattle.command_line.specs.Commands.{CommandWords, IsForm, HasNoForm, ReadsProblem, ReadsSecond, IsWithinHorizon, file_of, second_of}
use Rattle.command_line.specs.declared.command.Command.{Command}
use Rattle.command_line.specs.declared.command.Command.TheVariants as Commands
use Rattle.command_line.specs.declared.command.Command.TheVariants.{OnProblem, OnFiles, Explain}
use Rattle.command_line.proofs.OneForm.{one_form}
use Rattle.commands.specs.Files.{WhereTold}
use Rattle.commands.specs.ProblemFile.{IsProblemOf, IsProblemRefusal, IsShortFile}
use Rattle.commands.specs.Explain.{IsRefusalOf, problem_explanation}
use Rattle.commands.specs.Trial.{IsTrial}
use Rattle.commands.specs.declared.second_file.SecondKind.{SecondKind}
use Rattle.commands.specs.declared.explain.Answer.{Answer as Explanation}
use Rattle.commands.specs.declared.problem_file.ProblemRefusal.{ProblemRefusal}
use Rattle.commands.specs.declared.problem_file.ProblemRefusal.TheVariants as ProblemRefusals
use Rattle.commands.specs.declared.trial.Answer.{Answer as TrialAnswer}
use Rattle.commands.proofs.ProblemFiles.{one_refusal, not_refused}
use Rattle.commands.proofs.Explained.{one_wording, not_worded}
use Rattle.rwsp_run.specs.Answers.{IsAnswer, IsAnswerOn, IsAnswerTo, IsAsked, IsJobAnswer, IsTooLongFor, IsExplanation, IsRefusalExplained}
use Rattle.rwsp_run.specs.Commands.{IsFilesAnswer, second_kind, unfit_for, Suits}
use Rattle.rwsp_run.specs.Laws.{AnswersAreOne, ProblemsAreAnswered, AreTold, AgreeInSearch, JobsAgree}
use Rattle.rwsp_run.specs.declared.jobs.JobAnswer.{JobAnswer}
use Rattle.rwsp_run.specs.declared.answer.Refusal.TheVariants.{Usage, Horizon, Problem, Unfit, TooLong}
use Rattle.rwsp_run.specs.declared.answer.Unfit.{Unfit as Misfit}
use Rattle.rwsp_run.specs.declared.answer.Answer.{Answer}
use Rattle.rwsp_run.specs.declared.answer.Answer.TheVariants.{Refused, Trial, Job, Explained}
use Rattle.rwsp_run.proofs.OneJob.{one_on_problem, one_on_files}
use Rattle.rwsp_run.proofs.Files.{same_bytes, same_problem, keeps_limits, same_second, not_too_long, beyond}

as_answers : (a b : JobAnswer) → (a ≡ b) ⊎ JobsAgree a b → (Job a ≡ Job b) ⊎ AgreeInSearch (Job a) (Job b)
as_answers a b (inl e) = inl (ap Job e)
as_answers a b (inr h) = inr h

-- the shelf tells of the second file, where the command reads one
abbrev pub IsSecondTold : Command → Told → Type 0
IsSecondTold command told = ReadsSecond command → told ≢ Silent

same_kind : (command : Command) (told : Told) (k l : SecondKind) → IsTooLongFor command told k → IsTooLongFor command told l → Refused (TooLong k) ≡ Refused (TooLong l)
same_kind (OnFiles file second task) told k l h j = ap (λ (kind : SecondKind). Refused (TooLong kind)) (h.0 ∙ sym j.0)
same_kind (Explain file) told k l h j = absurd h
same_kind (OnProblem file task) told k l h j = absurd h
same_kind (Commands.Trial number weeks) told k l h j = absurd h

-- a job is done where the second file isn't too long
done_or_long : (command : Command) (P : Instance) (told : Told) (kind : SecondKind) (a : JobAnswer) → IsSecondTold command told → IsJobAnswer command told P a → IsTooLongFor command told kind → ⊥
done_or_long (OnFiles file second task) P told kind a there h long = not_too_long (second_kind task) kind told h.0 long.0 (there tt) h.1 long.1
done_or_long (Explain file) P told kind a there h long = h
done_or_long (OnProblem file task) P told kind a there h long = long
done_or_long (Commands.Trial number weeks) P told kind a there h long = long

one_job : (command : Command) (P : Instance) (told : Told) (a b : JobAnswer) → KeepsLimits P → IsSecondTold command told → IsJobAnswer command told P a → IsJobAnswer command told P b → (a ≡ b) ⊎ JobsAgree a b
one_job (OnProblem file task) P told a b limits there h k = one_on_problem task P a b h k
one_job (OnFiles file second task) P told a b limits there h k =
    let same : k.0 ≡ h.0 = same_second (second_kind task) told k.0 h.0 (there tt) k.1 h.1 in
    one_on_files task P h.0 a b limits h.2 (subst (λ (bytes : List ℕ). IsFilesAnswer task P bytes b) same k.2)
one_job (Explain file) P told a b limits there h k = absurd h
one_job (Commands.Trial number weeks) P told a b limits there h k = absurd h

-- words are said where the second file isn't too long
said_or_long : (command : Command) (P : Instance) (told : Told) (kind : SecondKind) (words : Explanation) → IsSecondTold command told → IsExplanation command told P words → IsTooLongFor command told kind → ⊥
said_or_long (Explain file) P told kind words there h long = long
said_or_long (OnFiles file second task) P told kind words there h long = h
said_or_long (OnProblem file task) P told kind words there h long = h
said_or_long (Commands.Trial number weeks) P told kind words there h long = h

-- no command does a job and says words
said_or_done : (command : Command) (P : Instance) (told : Told) (words : Explanation) (a : JobAnswer) → IsExplanation command told P words → IsJobAnswer command told P a → ⊥
said_or_done (Explain file) P told words a h done = done
said_or_done (OnFiles file second task) P told words a h done = h
said_or_done (OnProblem file task) P told words a h done = h
said_or_done (Commands.Trial number weeks) P told words a h done = h

one_explanation : (command : Command) (P : Instance) (told : Told) (v w : Explanation) → KeepsLimits P → IsSecondTold command told → IsExplanation command told P v → IsExplanation command told P w → v ≡ w
one_explanation (Explain file) P told v w limits there h k =
    let same : h.0 ≡ k.0 = same_bytes told _ _ (h.0 ≡ k.0) (there tt) (λ bytes x y. x ∙ sym y) h.1 k.1 in
    h.3 ∙ ap (λ (bytes : List ℕ). problem_explanation P bytes) same ∙ sym k.3
one_explanation (OnFiles file second task) P told v w limits there h k = absurd h
one_explanation (OnProblem file task) P told v w limits there h k = absurd h
one_explanation (Commands.Trial number weeks) P told v w limits there h k = absurd h

-- an instance isn't one for a command for one reason, or it is one
same_misfit : (command : Command) (P : Instance) (why other : Misfit) → unfit_for command P ≡ Some why → unfit_for command P ≡ Some other → why ≡ other
same_misfit command P why other h k = let both : Some why ≡ Some other = sym h ∙ k in cc

fit_or_not : (command : Command) (P : Instance) (why : Misfit) → unfit_for command P ≡ Some why → Suits command P → ⊥
fit_or_not command P why h k = let both : Some why ≡ None = sym h ∙ k in absurd (cc)

-- two answers to a command for an instance, over what the second file tells
pub one_on : (command : Command) (P : Instance) (told : Told) (a b : Answer) → KeepsLimits P → IsSecondTold command told → IsAnswerOn command told P a → IsAnswerOn command told P b → (a ≡ b) ⊎ AgreeInSearch a b
one_on command P told (Refused (Unfit why)) (Refused (Unfit other)) limits there h k = inl (ap (λ (w : Misfit). Refused (Unfit w)) (same_misfit command P why other h k))
one_on command P told (Refused (Unfit why)) (Refused (TooLong kind)) limits there h k = absurd (fit_or_not command P why h k.0)
one_on command P told (Refused (Unfit why)) (Job b) limits there h k = absurd (fit_or_not command P why h k.0)
one_on command P told (Refused (Unfit why)) (Explained w) limits there h k = absurd (fit_or_not command P why h k.0)
one_on command P told (Refused (TooLong kind)) (Refused (Unfit other)) limits there h k = absurd (fit_or_not command P other k h.0)
one_on command P told (Refused (TooLong kind)) (Refused (TooLong other)) limits there h k = inl (same_kind command told kind other h.1 k.1)
one_on command P told (Refused (TooLong kind)) (Job b) limits there h k = absurd (done_or_long command P told kind b there k.1 h.1)
one_on command P told (Refused (TooLong kind)) (Explained w) limits there h k = absurd (said_or_long command P told kind w there k.1 h.1)
one_on command P told (Job a) (Refused (Unfit other)) limits there h k = absurd (fit_or_not command P other k h.0)
one_on command P told (Job a) (Refused (TooLong kind)) limits there h k = absurd (done_or_long command P told kind a there h.1 k.1)
one_on command P told (Job a) (Job b) limits there h k = as_answers a b (one_job command P told a b limits there h.1 k.1)
one_on command P told (Job a) (Explained w) limits there h k = absurd (said_or_done command P told w a k.1 h.1)
one_on command P told (Explained v) (Refused (Unfit other)) limits there h k = absurd (fit_or_not command P other k h.0)
one_on command P told (Explained v) (Refused (TooLong kind)) limits there h k = absurd (said_or_long command P told kind v there h.1 k.1)
one_on command P told (Explained v) (Job b) limits there h k = absurd (said_or_done command P told v b h.1 k.1)
one_on command P told (Explained v) (Explained w) limits there h k = inl (ap (λ (words : Explanation). Explained words) (one_explanation command P told v w limits there h.1 k.1))
one_on command P told (Explained v) b limits there h k = absurd k
one_on command P told (Refused (Unfit why)) b limits there h k = absurd k
one_on command P told (Refused (TooLong kind)) b limits there h k = absurd k
one_on command P told (Job a) b limits there h k = absurd k
one_on command P told a b limits there h k = absurd h

-- the command explains
abbrev pub IsExplain : Command → Type 0
IsExplain (Explain file) = Unit {0}
IsExplain command = ⊥

-- the refusal of a problem's file has a line; of `explain` only where the file is too long
abbrev pub HasLine : Command → ProblemRefusal → Type 0
HasLine (Explain file) (ProblemRefusals.Refused why bytes) = ⊥
HasLine command why = Unit {0}

-- an answer to a command over its files: the problem's file is refused, by a line or in words, or it spells a problem
pub data FileEnd (command : Command) (held : List ℕ → Told) (a : Answer) : Type 0 where
  refused : (why : ProblemRefusal) → HasLine command why → WhereTold (held (file_of command)) (λ file. IsProblemRefusal file why) → a ≡ Refused (Problem why) → FileEnd command held a
  worded : (words : Explanation) → IsExplain command → IsRefusalExplained (held (file_of command)) words → a ≡ Explained words → FileEnd command held a
  spelled : (P : Instance) → IsProblemOf (held (file_of command)) P → IsAnswerOn command (held (second_of command)) P a → FileEnd command held a

explained_end : (file : List ℕ) (held : List ℕ → Told) (words : Explanation) → IsAnswerTo (Explain file) held (Explained words) → FileEnd (Explain file) held (Explained words)
explained_end file held words (inl h) = worded words tt h refl
explained_end file held words (inr h) = spelled h.0 h.1 (refl, h.2)

pub file_end : (command : Command) (held : List ℕ → Told) (a : Answer) → ReadsProblem command → IsAnswerTo command held a → FileEnd command held a
file_end (Commands.Trial number weeks) held a reads h = absurd reads
file_end (OnProblem file task) held (Refused (Problem why)) reads h = refused why tt h refl
file_end (OnProblem file task) held (Refused (Unfit why)) reads h = spelled h.0 h.1 h.2
file_end (OnProblem file task) held (Refused (TooLong kind)) reads h = spelled h.0 h.1 h.2
file_end (OnProblem file task) held (Job a) reads h = spelled h.0 h.1 h.2
file_end (OnProblem file task) held (Explained words) reads h = spelled h.0 h.1 h.2
file_end (OnProblem file task) held a reads h = absurd h.2
file_end (OnFiles file second task) held (Refused (Problem why)) reads h = refused why tt h refl
file_end (OnFiles file second task) held (Refused (Unfit why)) reads h = spelled h.0 h.1 h.2
file_end (OnFiles file second task) held (Refused (TooLong kind)) reads h = spelled h.0 h.1 h.2
file_end (OnFiles file second task) held (Job a) reads h = spelled h.0 h.1 h.2
file_end (OnFiles file second task) held (Explained words) reads h = spelled h.0 h.1 h.2
file_end (OnFiles file second task) held a reads h = absurd h.2
file_end (Explain file) held (Refused (Problem ProblemRefusals.TooLong)) reads h = refused ProblemRefusals.TooLong tt h.1 refl
file_end (Explain file) held (Refused (Problem (ProblemRefusals.Refused why bytes))) reads h =
    let no : ProblemRefusals.Refused why bytes ≡ ProblemRefusals.TooLong = h.0 in
    absurd (cc)
file_end (Explain file) held (Refused (Unfit why)) reads h = spelled h.0 h.1 h.2
file_end (Explain file) held (Refused (TooLong kind)) reads h = spelled h.0 h.1 h.2
file_end (Explain file) held (Job a) reads h = spelled h.0 h.1 h.2
file_end (Explain file) held (Explained words) reads h = explained_end file held words h
file_end (Explain file) held a reads h = absurd h.2

-- a file that is too long isn't explained
long_and_worded : (command : Command) (told : Told) (why : ProblemRefusal) (words : Explanation) → told ≢ Silent → HasLine command why → IsExplain command → WhereTold told (λ file. IsProblemRefusal file why) → IsRefusalExplained told words → ⊥
long_and_worded (Explain file) told ProblemRefusals.TooLong words there line is h k =
    same_bytes told _ _ ⊥ there (λ bytes x y. beyond _ _ _ y x k.2) h k.1
long_and_worded (Explain file) told (ProblemRefusals.Refused why bytes) words there line is h k = line
long_and_worded (OnFiles file second task) told why words there line is h k = is
long_and_worded (OnProblem file task) told why words there line is h k = is
long_and_worded (Commands.Trial number weeks) told why words there line is h k = is

same_words : (told : Told) (v w : Explanation) → told ≢ Silent → IsRefusalExplained told v → IsRefusalExplained told w → v ≡ w
same_words told v w there h k =
    same_bytes told _ _ (v ≡ w) there (λ bytes x y. one_wording bytes v w (subst (λ (b : List ℕ). IsRefusalOf b v) x h.3) (subst (λ (b : List ℕ). IsRefusalOf b w) y k.3)) h.1 k.1

spelled_and_worded : TextsSpellOrFail → (told : Told) (P : Instance) (words : Explanation) → told ≢ Silent → IsProblemOf told P → IsRefusalExplained told words → ⊥
spelled_and_worded decide told P words there h k =
    same_bytes told _ _ ⊥ there (λ bytes x y. not_worded decide bytes P words x.1 (subst (λ (b : List ℕ). IsRefusalOf b words) y k.3)) h k.1

not_both_ends : TextsSpellOrFail → (told : Told) (P : Instance) (why : ProblemRefusal) → told ≢ Silent → IsProblemOf told P → WhereTold told (λ file. IsProblemRefusal file why) → ⊥
not_both_ends decide told P why there h k = same_bytes told _ _ ⊥ there (λ file x y. not_refused decide file P why x.0 x.1 y) h k

one_end : TextsSpellOne → TextsSpellOrFail → (command : Command) (held : List ℕ → Told) (a b : Answer) → held (file_of command) ≢ Silent → IsSecondTold command (held (second_of command)) → FileEnd command held a → FileEnd command held b → (a ≡ b) ⊎ AgreeInSearch a b
one_end one decide command held a b there second (refused x line h e) (refused y other k f) =
    let same : x ≡ y = same_bytes (held (file_of command)) _ _ (x ≡ y) there (λ file p q. one_refusal file x y p q) h k in
    inl (e ∙ ap (λ (why : ProblemRefusal). Refused (Problem why)) same ∙ sym f)
one_end one decide command held a b there second (refused x line h e) (worded w is k f) = absurd (long_and_worded command (held (file_of command)) x w there line is h k)
one_end one decide command held a b there second (worded v is h e) (refused y line k f) = absurd (long_and_worded command (held (file_of command)) y v there line is k h)
one_end one decide command held a b there second (worded v is h e) (worded w also k f) =
    let same : v ≡ w = same_words (held (file_of command)) v w there h k in
    inl (e ∙ ap (λ (words : Explanation). Explained words) same ∙ sym f)
one_end one decide command held a b there second (worded v is h e) (spelled P r k) = absurd (spelled_and_worded decide (held (file_of command)) P v there r h)
one_end one decide command held a b there second (spelled P r h) (worded w is k f) = absurd (spelled_and_worded decide (held (file_of command)) P w there r k)
one_end one decide command held a b there second (refused x line h e) (spelled P r k) = absurd (not_both_ends decide (held (file_of command)) P x there r h)
one_end one decide command held a b there second (spelled P r h) (refused y line k f) = absurd (not_both_ends decide (held (file_of command)) P y there r k)
one_end one decide command held a b there second (spelled P r h) (spelled Q q k) =
    let told = held (second_of command) in
    let same : Q ≡ P = same_problem one (held (file_of command)) Q P there q r in
    one_on command P told a b (keeps_limits (held (file_of command)) P there r) second h (subst (λ (x : Instance). IsAnswerOn command told x b) same k)

-- how words are answered
data WordsEnd (held : List ℕ → Told) (words : CommandWords) (a : Answer) : Type 0 where
  unknown : HasNoForm words → a ≡ Refused Usage → WordsEnd held words a
  late : (command : Command) → IsForm words command → (IsWithinHorizon command → ⊥) → a ≡ Refused Horizon → WordsEnd held words a
  tried : (number weeks : ℕ) (trial : TrialAnswer) → IsForm words (Commands.Trial number weeks) → IsTrial number weeks trial → a ≡ Trial trial → WordsEnd held words a
  asked : (command : Command) → IsAsked words command → FileEnd command held a → WordsEnd held words a

command_end : (command : Command) (held : List ℕ → Told) (words : CommandWords) (a : Answer) → IsForm words command → IsWithinHorizon command → IsAnswerTo command held a → WordsEnd held words a
command_end (Commands.Trial number weeks) held words (Trial trial) form within h = tried number weeks trial form h refl
command_end (Commands.Trial number weeks) held words a form within h = absurd h
command_end (OnProblem file task) held words a form within h = asked (OnProblem file task) (form, within, tt) (file_end (OnProblem file task) held a tt h)
command_end (OnFiles file second task) held words a form within h = asked (OnFiles file second task) (form, within, tt) (file_end (OnFiles file second task) held a tt h)
command_end (Explain file) held words a form within h = asked (Explain file) (form, within, tt) (file_end (Explain file) held a tt h)

words_end : (held : List ℕ → Told) (words : CommandWords) (a : Answer) → IsAnswer held words a → WordsEnd held words a
words_end held words (Refused Usage) h = unknown h refl
words_end held words (Refused Horizon) h = late h.0 h.1 h.2 refl
words_end held words (Refused (Problem why)) h = command_end h.0 held words (Refused (Problem why)) h.1 h.2 h.3
words_end held words (Refused (Unfit why)) h = command_end h.0 held words (Refused (Unfit why)) h.1 h.2 h.3
words_end held words (Refused (TooLong kind)) h = command_end h.0 held words (Refused (TooLong kind)) h.1 h.2 h.3
words_end held words (Trial trial) h = command_end h.0 held words (Trial trial) h.1 h.2 h.3
words_end held words (Job a) h = command_end h.0 held words (Job a) h.1 h.2 h.3
words_end held words (Explained said) h = command_end h.0 held words (Explained said) h.1 h.2 h.3

-- a command that reads a problem's file is no trial
not_trial : (command : Command) (number weeks : ℕ) → command ≡ Commands.Trial number weeks → ReadsProblem command → ⊥
not_trial command number weeks e reads = subst ReadsProblem e reads

-- nor is one that asks for a calendar past the horizon
not_late : (command : Command) (number weeks : ℕ) → command ≡ Commands.Trial number weeks → (IsWithinHorizon command → ⊥) → ⊥
not_late command number weeks e out = subst (λ (c : Command). IsWithinHorizon c → ⊥) e out tt

-- two trials of one number and one count of weeks
trials_agree : (m n v w : ℕ) (x y : TrialAnswer) (a b : Answer) → Commands.Trial m v ≡ Commands.Trial n w → IsTrial m v x → IsTrial n w y → a ≡ Trial x → b ≡ Trial y → AgreeInSearch a b
trials_agree m n v w x y a b same h k e f =
    let number : m ≡ n = cc in
    let weeks : v ≡ w = cc in
    let agree : (x.number ≡ y.number) × (x.weeks ≡ y.weeks) = (h.0 ∙ number ∙ sym k.0, h.1 ∙ weeks ∙ sym k.1) in
    subst (λ (c : Answer). AgreeInSearch c b) (sym e) (subst (λ (c : Answer). AgreeInSearch (Trial x) c) (sym f) agree)

one_by_words : TextsSpellOne → TextsSpellOrFail → (held : List ℕ → Told) (words : CommandWords) (a b : Answer) → AreTold held words → WordsEnd held words a → WordsEnd held words b → (a ≡ b) ⊎ AgreeInSearch a b
one_by_words one decide held words a b told (unknown h e) (unknown k f) = inl (e ∙ sym f)
one_by_words one decide held words a b told (unknown h e) (late c form out f) = absurd (h c form)
one_by_words one decide held words a b told (unknown h e) (tried n w y form is f) = absurd (h (Commands.Trial n w) form)
one_by_words one decide held words a b told (unknown h e) (asked c is k) = absurd (h c is.0)
one_by_words one decide held words a b told (late c form out e) (unknown k f) = absurd (k c form)
one_by_words one decide held words a b told (tried n w x form is e) (unknown k f) = absurd (k (Commands.Trial n w) form)
one_by_words one decide held words a b told (asked c is h) (unknown k f) = absurd (k c is.0)
one_by_words one decide held words a b told (late c form out e) (late d other past f) = inl (e ∙ sym f)
one_by_words one decide held words a b told (late c form out e) (tried n w y other is f) = absurd (not_late c n w (one_form words c (Commands.Trial n w) form other) out)
one_by_words one decide held words a b told (late c form out e) (asked d is k) = absurd (out (subst IsWithinHorizon (one_form words d c is.0 form) is.1))
one_by_words one decide held words a b told (tried n w x form is e) (late d other past f) = absurd (not_late d n w (one_form words d (Commands.Trial n w) other form) past)
one_by_words one decide held words a b told (asked c is h) (late d other past f) = absurd (past (subst IsWithinHorizon (one_form words c d is.0 other) is.1))
one_by_words one decide held words a b told (tried m v x form is e) (tried n w y other also f) = inr (trials_agree m n v w x y a b (one_form words (Commands.Trial m v) (Commands.Trial n w) form other) is also e f)
one_by_words one decide held words a b told (tried n w x form is e) (asked d also k) = absurd (not_trial d n w (one_form words d (Commands.Trial n w) also.0 form) also.2)
one_by_words one decide held words a b told (asked c is h) (tried n w y form also f) = absurd (not_trial c n w (one_form words c (Commands.Trial n w) is.0 form) is.2)
one_by_words one decide held words a b told (asked c is h) (asked d also k) =
    let same : d ≡ c = one_form words d c also.0 is.0 in
    one_end one decide c held a b (told.0 c is) (told.1 c is) h (subst (λ (x : Command). FileEnd x held b) same k)

pub one_answer : TextsSpellOne → TextsSpellOrFail → AnswersAreOne
one_answer one decide held words a b told h k = one_by_words one decide held words a b told (words_end held words a h) (words_end held words b k)

-- the answers over a file that spells an instance

on_file : TextsSpellOne → TextsSpellOrFail → (command : Command) (held : List ℕ → Told) (file : List ℕ) (P : Instance) (a : Answer) → held (file_of command) ≡ Bytes file → IsShortFile file → SpellsProblem file P → FileEnd command held a → IsAnswerOn command (held (second_of command)) P a
on_file one decide command held file P a e short spells (refused why line h is) =
    absurd (not_refused decide file P why short spells (subst (λ (t : Told). WhereTold t (λ file. IsProblemRefusal file why)) e h))
on_file one decide command held file P a e short spells (worded words is h f) =
    let read : IsRefusalExplained (Bytes file) words = subst (λ (t : Told). IsRefusalExplained t words) e h in
    absurd (not_worded decide file P words spells (subst (λ (b : List ℕ). IsRefusalOf b words) read.1 read.3))
on_file one decide command held file P a e short spells (spelled Q r h) =
    let read = subst (λ (t : Told). IsProblemOf t Q) e r in
    subst (λ (x : Instance). IsAnswerOn command (held (second_of command)) x a) (one file Q P read.1 spells) h

by_words : TextsSpellOne → TextsSpellOrFail → (command : Command) (held : List ℕ → Told) (words : CommandWords) (file : List ℕ) (P : Instance) (a : Answer) → IsAsked words command → held (file_of command) ≡ Bytes file → IsShortFile file → SpellsProblem file P → WordsEnd held words a → IsAnswerOn command (held (second_of command)) P a
by_words one decide command held words file P a is e short spells (unknown h f) = absurd (h command is.0)
by_words one decide command held words file P a is e short spells (late c form out f) = absurd (out (subst IsWithinHorizon (one_form words command c is.0 form) is.1))
by_words one decide command held words file P a is e short spells (tried n w x form trial f) = absurd (not_trial command n w (one_form words command (Commands.Trial n w) is.0 form) is.2)
by_words one decide command held words file P a is e short spells (asked c also h) =
    let same : c ≡ command = one_form words c command also.0 is.0 in
    on_file one decide command held file P a e short spells (subst (λ (x : Command). FileEnd x held a) same h)

pub answered : TextsSpellOne → TextsSpellOrFail → ProblemsAreAnswered
answered one decide held words command file P a is e short spells h = by_words one decide command held words file P a is e short spells (words_end held words a h)
