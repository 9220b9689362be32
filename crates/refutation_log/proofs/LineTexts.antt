-- The words of a text line, and the answer to it.
use Rattle.std.proofs.Common.{◌≡◌, ◌≢◌, ℕ, ◌^◌, ◌<◌, List, [], ◌∷◌, ◌++◌, refl, ap, sym, ◌∙◌, subst, arith, Bool, true, false, Option, Some, None, Result, Ok, Err}
use Rattle.std.specs.Prelude.{codes, cond, IfSome}
use Rattle.std.specs.Str.{bytes_eq}
use Rattle.std.specs.List.{join_with_byte}
use Rattle.rwsp_text.specs.Fields.{Words, NamedWeight, ◌>>=◌, read, number_at, place_at, word_at, done_at}
use Rattle.rwsp_text.specs.Kinds.{read_line}
use Rattle.rwsp_text.specs.Lines.{words_of}
use Rattle.rwsp_text.proofs.KindLaws.{line_found, line_only}
use Rattle.rwsp_text.proofs.LineLaws.{text_words, words_text}
use Rattle.rwsp_terms.specs.declared.limits.TheConstants.{GREATEST_REWARD, LONGEST_WORD}
use Rattle.std.proofs.Math.Nat.{div-le_self}
use Rattle.rwsp_terms.specs.Instance.{Instance, cells}
use Rattle.rwsp_model.specs.Validity.{KeepsLimits}
use Rattle.rwsp_model.specs.Refusals.{MatchAnswer}
use Rattle.rwsp_model.specs.declared.fail.Fail.{Fail}
use Rattle.rwsp_model.specs.declared.fail.Fail.TheVariants.{Refused, Memory}
use Rattle.rwsp_model.proofs.Numbering.{rules_are_many}
use Rattle.rwsp_model.proofs.Sequences.{few_sequences}
use Rattle.refutation_terms.specs.declared.lines.Line.{Line}
use Rattle.refutation_terms.specs.LogText.{RawLine, RawDead, RawBound, RawFew, RawFree, IsWritten, raw_fields, line_of, WeightsAscend, line_kinds, own_kinds, last_kinds, most_turns, split_kind, window_kind, day_kind, dead_kind, bound_kind, free_kind}
use Rattle.refutation_terms.specs.Verdict.{Spells}
use Rattle.refutation_terms.specs.TextLaws.{IsWritable}
use Rattle.refutation_terms.proofs.LineTables.{lines_readable, raw_line, raw_found, raw_words}
use Rattle.refutation_log.specs.Refusals.{IsLineRefused}
use Rattle.refutation_log.specs.declared.refusal.LineRefusal.{LineRefusal}
use Rattle.refutation_log.specs.declared.refusal.LineRefusal.TheVariants.{Form, Name}
use Rattle.refutation_log.specs.Reading.{head_at, free_head_at, rules_in, all_weights_at, weighed_at, split_at, window_at, day_at, dead_at, bound_at, free_at, blocks_at, last_at, without_goal_at, with_goal_at, own_at, raw_at, Answers}

pub is_writable : (P : Instance) → KeepsLimits P → IsWritable P
is_writable P limits =
    let many = rules_are_many P in
    let sequences = few_sequences P.sequences limits.listed in
    (omega (arith, limits.few_days), omega (arith, limits.few_weeks), omega (arith, many, sequences, limits.few_shifts, limits.few_days))

pub few_turns : (P : Instance) (n : ℕ) → n ≡ most_turns P → n < 10 ^ 9
few_turns P n e = let le = div-le_self LONGEST_WORD (cells P) in omega (arith, e, le)

-- a position, a number and a word, read at once or one by one
then_two : {B C D X : Type 0} (o : Option B) (g : B → Option C) (m : B → C → D) (k : D → Option X) → ((o >>= (λ b. g b >>= (λ c. Some (m b c)))) >>= k) ≡ (o >>= (λ b. g b >>= (λ c. k (m b c))))
then_two None g m k = refl
then_two (Some b) g m k = last (g b) (m b) k
  where
    last : {C D X : Type 0} (o : Option C) (m : C → D) (k : D → Option X) → ((o >>= (λ c. Some (m c))) >>= k) ≡ (o >>= (λ c. k (m c)))
    last None m k = refl
    last (Some c) m k = refl

then_three : {A B C D X : Type 0} (o : Option A) (f : A → Option B) (g : B → Option C) (m : A → B → C → D) (k : D → Option X) → ((o >>= (λ a. f a >>= (λ b. g b >>= (λ c. Some (m a b c))))) >>= k) ≡ (o >>= (λ a. f a >>= (λ b. g b >>= (λ c. k (m a b c)))))
then_three None f g m k = refl
then_three (Some a) f g m k = then_two (f a) g (m a) k

abbrev Head : Type 0
Head = (ℕ × ℕ) × Words

head_then : {X : Type 0} (P : Instance) (high : ℕ) (ws : Words) (k : Head → Option X) → (head_at P high ws >>= k) ≡ (place_at P.weeks P.days ws >>= (λ p. number_at 1 high p.1 >>= (λ n. word_at (codes "rules") n.1 >>= (λ rest. k ((p.0, n.0), rest)))))
unfolding head_at
head_then P high ws k = then_three (place_at P.weeks P.days ws) (λ p. number_at 1 high p.1) (λ n. word_at (codes "rules") n.1) (λ p n rest. ((p.0, n.0), rest)) k

pub dead_is : (P : Instance) (ws : Words) → dead_at P ws ≡ read (dead_kind P).fields (dead_kind P).make ws
unfolding dead_at
dead_is P ws = head_then P LONGEST_WORD ws (λ head. done_at (RawDead head.0.0 head.0.1 (rules_in P head.1).0) (rules_in P head.1).1)

-- rules and weights, read at once or one by one
weighed_then : (P : Instance) (ws : Words) (k : List ℕ → List NamedWeight → RawLine) → (weighed_at P ws >>= (λ v. Some (k v.0 v.1))) ≡ (word_at (codes "weights") (rules_in P ws).1 >>= (λ rest. all_weights_at P rest >>= (λ y. Some (k (rules_in P ws).0 y))))
unfolding weighed_at
weighed_then P ws k = then_two (word_at (codes "weights") (rules_in P ws).1) (λ rest. all_weights_at P rest) (λ rest y. ((rules_in P ws).0, y)) (λ v. Some (k v.0 v.1))

then_same : {A X : Type 0} (o : Option A) (f g : A → Option X) → ((a : A) → f a ≡ g a) → (o >>= f) ≡ (o >>= g)
then_same None f g h = refl
then_same (Some a) f g h = h a

pub bound_is : (P : Instance) (ws : Words) → bound_at P ws ≡ read (bound_kind P).fields (bound_kind P).make ws
unfolding bound_at
bound_is P ws =
    then_same (head_at P (most_turns P) ws) (λ head. weighed_at P head.1 >>= (λ v. Some (RawBound head.0.0 head.0.1 v.0 v.1)))
    (λ head. word_at (codes "weights") (rules_in P head.1).1 >>= (λ rest. all_weights_at P rest >>= (λ y. Some (RawBound head.0.0 head.0.1 (rules_in P head.1).0 y))))
    (λ head. weighed_then P head.1 (RawBound head.0.0 head.0.1))
    ∙ head_then P (most_turns P) ws (λ head. word_at (codes "weights") (rules_in P head.1).1 >>= (λ rest. all_weights_at P rest >>= (λ y. Some (RawBound head.0.0 head.0.1 (rules_in P head.1).0 y))))

pub free_is : (P : Instance) (ws : Words) → free_at P ws ≡ read (free_kind P).fields (free_kind P).make ws
unfolding free_at free_head_at
free_is P ws =
    then_same (free_head_at P ws) (λ head. weighed_at P head.1 >>= (λ v. Some (RawFree head.0.0 head.0.1 v.0 v.1)))
    (λ head. word_at (codes "weights") (rules_in P head.1).1 >>= (λ rest. all_weights_at P rest >>= (λ y. Some (RawFree head.0.0 head.0.1 (rules_in P head.1).0 y))))
    (λ head. weighed_then P head.1 (RawFree head.0.0 head.0.1))
    ∙ then_three (number_at 1 (most_turns P) ws) (λ turns. number_at 0 GREATEST_REWARD turns.1) (λ reward. word_at (codes "rules") reward.1) (λ turns reward rest. ((turns.0, reward.0), rest))
    (λ head. word_at (codes "weights") (rules_in P head.1).1 >>= (λ rest. all_weights_at P rest >>= (λ y. Some (RawFree head.0.0 head.0.1 (rules_in P head.1).0 y))))

-- the last kinds, and those that logs with a goal, or without one, have alone
last_is : (counts : Bool) (w : List ℕ) (ws : Words) → last_at counts w ws ≡ read_line (last_kinds counts) (w ∷ ws)
unfolding last_at blocks_at read_line
last_is false w ws = refl
last_is true w ws = refl

own_is : (P : Instance) (goal : Option ℕ) (counts : Bool) (w : List ℕ) (ws : Words) → own_at P goal counts w ws ≡ read_line (own_kinds P goal counts) (w ∷ ws)
unfolding without_goal_at with_goal_at read_line
own_is P None counts w ws =
    ap (λ b. cond (bytes_eq w (codes "bound")) b (last_at counts w ws)) (bound_is P ws)
    ∙ ap (λ l. cond (bytes_eq w (codes "bound")) (read (bound_kind P).fields (bound_kind P).make ws) l) (last_is counts w ws)
own_is P (Some goal) counts w ws =
    ap (λ f. cond (bytes_eq w (codes "few")) (done_at RawFew ws) (cond (bytes_eq w (codes "free")) f (last_at counts w ws))) (free_is P ws)
    ∙ ap (λ l. cond (bytes_eq w (codes "few")) (done_at RawFew ws) (cond (bytes_eq w (codes "free")) (read (free_kind P).fields (free_kind P).make ws) l)) (last_is counts w ws)

abbrev with_dead : Instance → List ℕ → Words → Option RawLine → Option RawLine → Option RawLine
with_dead P w ws dead own =
    cond (bytes_eq w (codes "split")) (read (split_kind P).fields (split_kind P).make ws)
    (cond (bytes_eq w (codes "window")) (read (window_kind P).fields (window_kind P).make ws)
    (cond (bytes_eq w (codes "day")) (read (day_kind P).fields (day_kind P).make ws)
    (cond (bytes_eq w (codes "dead")) dead own)))

pub raw_is : (P : Instance) (goal : Option ℕ) (counts : Bool) (ws : Words) → raw_at P goal counts ws ≡ read_line (line_kinds P goal counts) ws
unfolding raw_at read_line split_at window_at day_at
raw_is P goal counts [] = refl
raw_is P goal counts (w ∷ ws) =
    ap (λ d. with_dead P w ws d (own_at P goal counts w ws)) (dead_is P ws)
    ∙ ap (with_dead P w ws (read (dead_kind P).fields (dead_kind P).make ws)) (own_is P goal counts w ws)

-- what is written is read
pub written_read : (P : Instance) (goal : Option ℕ) (counts : Bool) (bytes body : List ℕ) (raw : RawLine) → IsWritable P → bytes ≡ body ++ 10 ∷ [] → IsWritten P goal counts bytes raw → read_line (line_kinds P goal counts) (words_of body) ≡ Some raw
written_read P goal counts bytes body raw s e h =
    ap (read_line (line_kinds P goal counts)) (text_words bytes body (raw_fields P raw) (raw_words P goal counts raw s h.in_range) e h.spelled)
    ∙ line_only (line_kinds P goal counts) (raw_fields P raw) raw (lines_readable P goal counts s) (raw_line P goal counts raw h.in_range)

pub read_written : (P : Instance) (goal : Option ℕ) (counts : Bool) (bytes body : List ℕ) (raw : RawLine) → bytes ≡ body ++ 10 ∷ [] → read_line (line_kinds P goal counts) (words_of body) ≡ Some raw → IfSome (line_of P raw) WeightsAscend → IsWritten P goal counts bytes raw
read_written P goal counts bytes body raw e h up =
    let f = raw_found P goal counts (words_of body) raw (line_found (line_kinds P goal counts) (words_of body) raw h) in
    record { spelled = words_text bytes body (raw_fields P raw) e f.0; in_range = f.1; ascends = up }

answer_by : (P : Instance) (goal : Option ℕ) (counts : Bool) (bytes body : List ℕ) (o : Option RawLine) (result : Result Line (Fail LineRefusal)) → IsWritable P → bytes ≡ body ++ 10 ∷ [] → read_line (line_kinds P goal counts) (words_of body) ≡ o → Answers P o result → MatchAnswer result (Spells P goal counts bytes) (IsLineRefused P goal counts bytes)
answer_by P goal counts bytes body None (Ok line) s e r a = absurd a
answer_by P goal counts bytes body (Some raw) (Ok line) s e r a =
    (raw, read_written P goal counts bytes body raw e r (subst (λ o. IfSome o WeightsAscend) (sym a.0) a.1), a.0)
answer_by P goal counts bytes body o (Err Memory) s e r a = tt
answer_by P goal counts bytes body None (Err (Refused Form)) s e r a =
    λ raw h. let w : read_line (line_kinds P goal counts) (words_of body) ≡ Some raw = written_read P goal counts bytes body raw s e h in absurd (cc)
answer_by P goal counts bytes body (Some raw) (Err (Refused Form)) s e r a =
    λ other h.
    let w : read_line (line_kinds P goal counts) (words_of body) ≡ Some other = written_read P goal counts bytes body other s e h in
    let same : other ≡ raw = let z : Some other ≡ Some raw = sym w ∙ r in cc in
    let up : IfSome (line_of P raw) WeightsAscend = subst (λ q. IfSome (line_of P q) WeightsAscend) same h.ascends in
    let up' : IfSome (Some a.0) WeightsAscend = subst (λ o. IfSome o WeightsAscend) a.1 up in
    a.2 up'
answer_by P goal counts bytes body None (Err (Refused Name)) s e r a = absurd a
answer_by P goal counts bytes body (Some raw) (Err (Refused Name)) s e r a =
    (raw, read_written P goal counts bytes body raw e r (subst (λ o. IfSome o WeightsAscend) (sym a) tt), a)

pub line_answered : (P : Instance) (goal : Option ℕ) (counts : Bool) (bytes body : List ℕ) (result : Result Line (Fail LineRefusal)) → KeepsLimits P → bytes ≡ body ++ 10 ∷ [] → Answers P (raw_at P goal counts (words_of body)) result → MatchAnswer result (Spells P goal counts bytes) (IsLineRefused P goal counts bytes)
line_answered P goal counts bytes body result k e a =
    answer_by P goal counts bytes body (read_line (line_kinds P goal counts) (words_of body)) result (is_writable P k) e refl (subst (λ o. Answers P o result) (raw_is P goal counts (words_of body)) a)

pub no_feed_no_line : (P : Instance) (goal : Option ℕ) (counts : Bool) (bytes : List ℕ) → ((body : List ℕ) → bytes ≢ body ++ 10 ∷ []) → IsLineRefused P goal counts bytes Form
no_feed_no_line P goal counts bytes none = λ raw h. none (join_with_byte 32 (raw_fields P raw)) h.spelled
