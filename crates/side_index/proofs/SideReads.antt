-- What a side's regions hold, read in a later work list that is the same up to their end, under the caller's names of the
-- regions: the sets as their ranks, the inverted lists, and a bound of the offsets.
use Prim.Native.Nat.{ℕ, suc, ◌+◌, ◌≤◌, ◌<◌}
use mathlib.Core.Path.{◌≡◌, ap, ap₂, subst, ◌∙◌}
use mathlib.Core.List.{List, []}
use native.Mathlib.Omega.{arith}
use lib.ListN.{length, get_or, take}
use Rattle.lists.proofs.Slices.{frame_at, frame_less}
use Rattle.sets.specs.Ordered.{ordered}
use Rattle.counting_sort.specs.Holding.{RegionHolds}
use Rattle.counting_sort.specs.Sorting.{sorted_at}
use Rattle.counting_sort.proofs.Regions.{holds_later}
use Rattle.side_index.specs.keys.SetKeys.{start_of}
use Rattle.side_index.specs.Side.{SideHeld, starts_at, ranks_at, side_end, holders_of}

module _ {base T n : ℕ} {ranks : List ℕ} {sets : List (List ℕ)} {w : List ℕ} (h : SideHeld base T n ranks sets w) {end : ℕ}
    (there : end ≡ side_end base T n (length sets)) (v : List ℕ) (same : take end v ≡ take end w) where
  kept : take (side_end base T n (length sets)) v ≡ take (side_end base T n (length sets)) w
  kept = subst (λ (m : ℕ). take m v ≡ take m w) there same

  pub side_set : (starts at high : ℕ) → starts ≡ starts_at base T n → at ≡ ranks_at base T n (length sets)
      → end ≤ high → (s : ℕ) → s < length sets
      → RegionHolds v high (start_of v starts at s) (start_of v starts at (suc s)) (ordered T ranks (get_or sets s []))
  side_set starts at high same-starts same_at more s below =
      holds_later kept (omega (arith, there)) (bound s (omega arith)) (bound (suc s) (omega arith)) (h.by_set s below)
    where
      bound : (x : ℕ) → x ≤ length sets → start_of v starts at x ≡ start_of w (starts_at base T n) (ranks_at base T n (length sets)) x
      bound x low =
          ap₂ (λ (a b : ℕ). a + get_or v (b + x) 0) same_at same-starts
          ∙ ap (λ (a : ℕ). ranks_at base T n (length sets) + a)
          (frame_at 0 (starts_at base T n + x) (side_end base T n (length sets)) w v (omega arith) kept)

  side_offset : (r : ℕ) → r ≤ T → get_or v (base + r) 0 ≡ get_or w (base + r) 0
  side_offset r low = frame_at 0 (base + r) (side_end base T n (length sets)) w v (omega arith) kept

  pub side_inverted : (index high : ℕ) → index ≡ sorted_at base T → end ≤ high → (r : ℕ) → r < T
      → RegionHolds v high (index + get_or v (base + r) 0) (index + get_or v (base + suc r) 0) (holders_of T ranks sets r)
  side_inverted index high same_index more r below =
      holds_later
      (frame_less (starts_at base T n) (side_end base T n (length sets)) w v (omega arith) kept)
      (omega (arith, there))
      (ap₂ (λ (a b : ℕ). a + b) same_index (side_offset r (omega arith)))
      (ap₂ (λ (a b : ℕ). a + b) same_index (side_offset (suc r) below))
      (h.inverted r below)

  -- every offset is at most n
  pub side_bound : (r : ℕ) → r < T → get_or v (base + suc r) 0 ≤ n
  side_bound r below = omega (arith, side_offset (suc r) below, (h.inverted r below).within)
