-- The settings' four tests one by one, the tests of a join in their order, and the test of a rule's number.
use Prim.Native.Nat.{ℕ, ◌≤◌, ◌<◌}
use mathlib.Core.Path.{◌≡◌}
use mathlib.Core.List.{List}
use mathlib.Core.Bool.{true, false, not}
use lib.Dec.{ltb}
use borrow.Author.Tests.{lt-ltb, le-ltb, eq-eqb, ne_eqb}
use Rattle.std.specs.Prelude.{Err, Ok}
use Rattle.sets.specs.Limits.{max_items, max_limit}
use Rattle.sets.specs.Ordered.{is_permutation}
use Rattle.sets.specs.Refusals.{refuse_if}
use Rattle.sets.specs.declared.Refusal.{Refusal}
use Rattle.sets.specs.declared.Refusal.TheVariants.{BadSettings}
use Rattle.inputs.specs.Input.{Input}
use Rattle.inputs.specs.Inner.{Sized}
use Rattle.inputs.specs.Tests.{sets_test, work_test}
use Rattle.inputs.proofs.TestLaws.{sets_good, sized}
use Rattle.join_spec.specs.Answer.{bad_settings, join_tests}
use Rattle.join_spec.proofs.GoodSettings.{good_settings}

-- the settings' four tests
module _ (T limit : ℕ) (ranks : List ℕ) where
  pub many_items : max_items < T → true ≡ bad_settings T limit ranks
  unfolding bad_settings
  many_items h = rw (lt-ltb max_items T h)

  module _ (few : T ≤ max_items) where
    pub no_limit : limit ≡ 0 → true ≡ bad_settings T limit ranks
    unfolding bad_settings
    no_limit h = rw (le-ltb max_items T few, eq-eqb limit 0 h)

    module _ (some : limit ≡ 0 → ⊥) where
      pub high_limit : max_limit < limit → true ≡ bad_settings T limit ranks
      unfolding bad_settings
      high_limit h = rw (le-ltb max_items T few, ne_eqb limit 0 some, lt-ltb max_limit limit h)

      pub rank_test : limit ≤ max_limit → not (is_permutation T ranks) ≡ bad_settings T limit ranks
      unfolding bad_settings
      rank_test h = rw (le-ltb max_items T few, ne_eqb limit 0 some, le-ltb max_limit limit h)

-- the tests in their order
module _ (i : Input) (limit : ℕ) (ranks : List ℕ) (words : ℕ) where
  pub settings_failed : bad_settings i.T limit ranks ≡ true → Err BadSettings ≡ join_tests i limit ranks words
  unfolding join_tests
  settings_failed bad = rw bad

  module _ (good : bad_settings i.T limit ranks ≡ false) where
    pub sets_failed : {why : Refusal} → sets_test i ≡ Err why → Err why ≡ join_tests i limit ranks words
    unfolding join_tests
    sets_failed bad = rw (good, bad)

    pub work_last : sets_test i ≡ Ok tt → work_test i words ≡ join_tests i limit ranks words
    unfolding join_tests
    work_last passed = rw (good, passed)

    -- what was tested so far keeps the sizes small
    pub sizes : sets_test i ≡ Ok tt → Sized i
    sizes passed = sized i (good_settings i.T limit ranks good).few_items (sets_good i passed)

-- a rule's number
module _ (number : ℕ) where
  pub rule_above : 2 < number → Err BadSettings ≡ refuse_if (ltb 2 number) BadSettings
  rule_above above = rw (lt-ltb 2 number above)

  pub rule_within : number ≤ 2 → Ok tt ≡ refuse_if (ltb 2 number) BadSettings
  rule_within within = rw (le-ltb 2 number within)
