-- What it means that settings are not refused (6).
use Prim.Native.Nat.{ℕ, ◌≤◌}
use mathlib.Core.Path.{◌≡◌}
use mathlib.Core.List.{List}
use mathlib.Core.Bool.{true, false, not, ◌||◌}
use lib.Dec.{eqb, ltb}
use borrow.Author.Tests.{ltb-false, le-ltb, eqb-false, ne_eqb, not-false}
use Rattle.lists.proofs.Bools.{or_left_false, or_right_false}
use Rattle.sets.specs.Limits.{max_items, max_limit}
use Rattle.sets.specs.Ordered.{is_permutation}
use Rattle.join_spec.specs.Answer.{bad_settings}

-- settings that are not refused
pub record GoodSettings (T limit : ℕ) (ranks : List ℕ) : Type 0 where
  pub few_items : T ≤ max_items
  pub limit_above : limit ≡ 0 → ⊥
  pub limit_within : limit ≤ max_limit
  pub permutation : is_permutation T ranks ≡ true

pub good_settings : (T limit : ℕ) (ranks : List ℕ) → bad_settings T limit ranks ≡ false → GoodSettings T limit ranks
unfolding bad_settings
good_settings T limit ranks e =
    let later = or_right_false (ltb max_items T) (eqb limit 0 || (ltb max_limit limit || not (is_permutation T ranks))) e in
    let last = or_right_false (eqb limit 0) (ltb max_limit limit || not (is_permutation T ranks)) later in
    record {
      few_items = ltb-false max_items T (or_left_false (ltb max_items T) _ e);
      limit_above = eqb-false limit 0 (or_left_false (eqb limit 0) _ later);
      limit_within = ltb-false max_limit limit (or_left_false (ltb max_limit limit) _ last);
      permutation = not-false (is_permutation T ranks) (or_right_false (ltb max_limit limit) _ last);
    }

pub settings_good : (T limit : ℕ) (ranks : List ℕ) → GoodSettings T limit ranks → bad_settings T limit ranks ≡ false
unfolding bad_settings
settings_good T limit ranks good =
    rw (
      le-ltb max_items T good.few_items,
      ne_eqb limit 0 good.limit_above,
      le-ltb max_limit limit good.limit_within,
      good.permutation,
    )
