-- What a symbol gains, with a reward where it makes a weekend free.
use Rattle.std.specs.Prelude.{ℕ, ◌+◌, ◌%◌, ◌==◌, ◌&&◌, Bool, ℤ, pos, ◌+ℤ◌, if◌then◌else◌, List}
use Rattle.rwsp_terms.specs.declared.limits.TheConstants.{DAYS_OF_WEEK, SUNDAY}
use Rattle.rwsp_terms.specs.declared.data.Symbol.{Symbol}
use Rattle.rwsp_terms.specs.declared.data.Weight.{Weight}
use Rattle.rwsp_terms.specs.Weights.{weight_at}
use Rattle.domain_store.specs.Store.{Store}
use Rattle.clean_words.specs.Automata.{RuleAutomaton}
use Rattle.clean_words.specs.Courses.{Course, course}

-- the Sunday of a week, the days counted from 0, with the day off there and on the day before
abbrev pub ends_free : ℕ → Bool → Symbol → Bool
ends_free day behind_off x = (day % DAYS_OF_WEEK == SUNDAY) && (behind_off && (x.number == 0))

-- the reward, where a free weekend ends
abbrev pub reward_behind : ℕ → ℕ → Bool → Symbol → ℕ
reward_behind reward day behind_off x = if ends_free day behind_off x then reward else 0

-- what a symbol weighs on a day of a word from a position on, in weeks of `days` days, with the reward
abbrev pub free_gain : List Weight → ℕ → ℕ → ℕ → ℕ → Bool → Symbol → ℤ
free_gain y p days reward day behind_off x =
    weight_at y ((p + day) % days + 1) x.number +ℤ pos (reward_behind reward day behind_off x)

-- the words over domains from a position on that the automaton reads, weighed so
abbrev pub weighed : RuleAutomaton → Store → ℕ → List Weight → ℕ → Course
weighed A S p y reward = course A S p (free_gain y p A.problem.days reward)
