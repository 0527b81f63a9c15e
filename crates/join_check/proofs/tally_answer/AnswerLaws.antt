-- The answer by the counters: each case of it; what is known where it has counts and where it refuses; and where the counters are
-- the query's it is the walk's answer.
use Prim.Native.Nat.{ℕ, ◌*◌, ◌<◌, ◌≤◌}
use mathlib.Core.Path.{◌≡◌, refl, sym, ap, ◌∙◌}
use mathlib.Core.Bool.{Bool, true, false, cond}
use native.Mathlib.Omega.{arith}
use lib.Dec.{ltb}
use borrow.Author.Tests.{ltb-false, lt-ltb, le-ltb}
use Rattle.std.specs.Prelude.{Option, Some, None, Result, Err, Ok}
use Rattle.sets.specs.Refusals.{clears}
use Rattle.sets.specs.declared.Refusal.{Refusal}
use Rattle.sets.specs.declared.Refusal.TheVariants.{Spent, ShortPairs}
use Rattle.join_spec.specs.declared.Counts.{Counts}
use Rattle.join_spec.specs.Query.{Query}
use Rattle.join_spec.specs.Counting.{counts_of, checks_of}
use Rattle.join_spec.specs.Answer.{walk_answer}
use Rattle.join_spec.proofs.Accepted.{spent_above}
use Rattle.join_check.specs.declared.Tally.{Tally}
use Rattle.join_check.specs.tally_answer.Answering.{tally_counts, tally_answer}

-- the six counts one by one
pub counts_same : {a a' b b' c c' d d' e e' f f' : ℕ} → a ≡ a' → b ≡ b' → c ≡ c' → d ≡ d' → e ≡ e' → f ≡ f'
    → ◌≡◌ {A = Counts}
    (record { pairs = a; by_path = b; confirmed = c; checks = d; dropped = e; false_drops = f })
    (record { pairs = a'; by_path = b'; confirmed = c'; checks = d'; dropped = e'; false_drops = f' })
counts_same p q r s t u =
    λ i. record { pairs = p i; by_path = q i; confirmed = r i; checks = s i; dropped = t i; false_drops = u i }

-- the answer with these counts where it is not spent
abbrev counted : ℕ → Counts → Result Counts Refusal
counted places counts = cond (ltb places (2 * counts.pairs)) (Err ShortPairs) (Ok counts)

same_refusal : (a why : Refusal) → ◌≡◌ {A = Result Counts Refusal} (Err a) (Err why) → why ≡ a
same_refusal a why h = cc

module _ (made : Option Tally) (places : ℕ) where
  pub tally_spent : made ≡ None → Err Spent ≡ tally_answer made places
  unfolding tally_answer
  tally_spent none = sym (rw none)

  pub tally_short : (tally : Tally) → made ≡ Some tally → places < 2 * (tally_counts tally).pairs
      → Err ShortPairs ≡ tally_answer made places
  unfolding tally_answer
  tally_short tally is short = sym (rw (is, lt-ltb places (2 * (tally_counts tally).pairs) short))

  pub tally_joined : (tally : Tally) → made ≡ Some tally → 2 * (tally_counts tally).pairs ≤ places
      → Ok (tally_counts tally) ≡ tally_answer made places
  unfolding tally_answer
  tally_joined tally is enough = sym (rw (is, le-ltb places (2 * (tally_counts tally).pairs) enough))

module _ (places : ℕ) where
  -- counts: it was not spent, and there are places for the pairs
  pub record Enough (made : Option Tally) : Type 0 where
    pub tally : Tally
    pub is : made ≡ Some tally
    pub room : 2 * (tally_counts tally).pairs ≤ places

  pub joined_enough : (made : Option Tally) {counts : Counts} → tally_answer made places ≡ Ok counts → Enough made
  unfolding tally_answer
  joined_enough None e = let z : ◌≡◌ {A = ℕ} 0 1 = cc in absurd (omega arith)
  joined_enough (Some tally) {counts} e =
      record {
        tally = tally;
        is = refl;
        room = ltb-false places (2 * (tally_counts tally).pairs) (go (ltb places (2 * (tally_counts tally).pairs)) e);
      }
    where
      go : (short : Bool) → cond short (Err ShortPairs) (Ok (tally_counts tally)) ≡ Ok counts → short ≡ false
      go true h = let z : ◌≡◌ {A = ℕ} 0 1 = cc in absurd (omega arith)
      go false h = refl

  -- a refusal: 8 or 9, which clear the outputs
  pub refused_clears : (made : Option Tally) {why : Refusal} → tally_answer made places ≡ Err why → clears why ≡ true
  unfolding tally_answer
  refused_clears None {why} e = ap clears (same_refusal Spent why e)
  refused_clears (Some tally) {why} e = go (ltb places (2 * (tally_counts tally).pairs)) e
    where
      go : (short : Bool) → cond short (Err ShortPairs) (Ok (tally_counts tally)) ≡ Err why → clears why ≡ true
      go true h = ap clears (same_refusal ShortPairs why h)
      go false h = let z : ◌≡◌ {A = ℕ} 0 1 = cc in absurd (omega arith)

-- counters that are the query's, of a walk that is spent exactly where its checks pass the budget
pub tally_walk : (q : Query) (budget : ℕ) (made : Option Tally) (places : ℕ)
    → (made ≡ None → budget < checks_of q) → ((tally : Tally) → made ≡ Some tally → checks_of q ≤ budget)
    → ((tally : Tally) → made ≡ Some tally → tally_counts tally ≡ counts_of q)
    → tally_answer made places ≡ walk_answer q budget places
unfolding tally_answer walk_answer
tally_walk q budget None places beyond within counts = sym (spent_above q budget places (beyond refl))
tally_walk q budget (Some tally) places beyond within counts =
    ap (counted places) (counts tally refl)
    ∙ sym (ap (λ (over : Bool). cond over (Err Spent) (counted places (counts_of q))) (le-ltb budget (checks_of q) (within tally refl)))
