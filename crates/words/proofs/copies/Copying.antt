-- A copy, once the whole part is copied: each of its words was kept.
use Prim.Native.Nat.{ℕ, ◌+◌, ◌-◌, ◌≤◌}
use mathlib.Core.Path.{◌≡◌, refl, ◌∙◌}
use mathlib.Core.List.{List}
use mathlib.Core.Bool.{true}
use native.Mathlib.Omega.{arith}
use Rattle.lists.specs.Lists.{slice}
use Rattle.lists.proofs.Throughout.{all_intro}
use Rattle.lists.proofs.Filtering.{keep_all}
use Rattle.words.proofs.flags.Keeping.{Keeping, keeping_end}
use Rattle.words.specs.copies.Copies.{Copied}

-- a copy of the whole part
pub copying_end : {w₀ w : List ℕ} {from to top i n : ℕ} → Keeping (λ s. true) w₀ from to top w i n → n + (to - i) ≡ top + (to - from)
    → to ≤ i → Copied from to top w₀ w n
copying_end {w₀} {w} {from} {to} {top} {i} {n} so past low =
    let kept = keeping_end so low in
    record {
      changed = kept.changed;
      past = omega (arith, past, low);
      is = kept.is ∙ keep_all (λ s. true) (slice from to w₀) (all_intro (λ s. true) (slice from to w₀) (λ s m. refl));
    }
