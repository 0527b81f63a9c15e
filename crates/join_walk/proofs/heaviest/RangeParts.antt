-- Left sets that stand by their keys at a depth are parted wherever a range with the same key begins: at the first place, at the end
-- of a range, and at the last place.
use Prim.Native.Nat.{ℕ, zero, suc, ◌+◌, ◌-◌, ◌≤◌, ◌<◌}
use mathlib.Core.Path.{◌≡◌, refl, sym, ap, ap₂, subst, ◌∙◌}
use mathlib.Core.List.{List, [], ◌++◌, append_assoc}
use mathlib.Core.Bool.{true, false}
use native.Mathlib.Omega.{arith}
use native.Mathlib.Nat.{zero-add, add-zero}
use borrow.Author.Tests.{ltb-true, ltb-false}
use lib.Dec.{eqb, ltb}
use lib.ListN.{length, take, length-append}
use lib.Seq.{take_at}
use Rattle.lists.specs.Lists.{keep}
use Rattle.lists.proofs.Bools.{by_test}
use Rattle.join_spec.specs.Query.{Query}
use Rattle.counting_sort.specs.Groups.{groups_from}
use Rattle.join_index.specs.Grouping.{key_at}
use Rattle.join_index.specs.declared.Layout.{Layout}
use Rattle.join_index.specs.Asking.{RangeThere}
use Rattle.join_index.specs.Ranges.{left_in, RangeEnd}
use Rattle.join_index.proofs.Orders.{range_none}
use Rattle.join_check.specs.keys.Borders.{Border, first_border, next_border, RangeFound}
use Rattle.join_check.specs.declared.keys.Span.{Span}
use Rattle.join_check.proofs.keys.RangeEnds.{reaching_start, reaching_end}
use Rattle.join_nodes.proofs.Groups.{FirstGroup}
use Rattle.join_nodes.proofs.RangeLaws.{Cut, range_split}
use Rattle.join_nodes.proofs.blocks.GroupSteps.{group_first, group_cut}
use Rattle.join_walk.specs.heaviest.Heaviest.{PartedAt, RangeBegins, RangeChosen}

-- lists that are the same with the same list behind them
append_cancel : (xs ys zs : List ℕ) → xs ++ zs ≡ ys ++ zs → xs ≡ ys
append_cancel xs ys zs e =
    let long : length ys ≡ length xs = omega (arith, ap length e, length-append xs zs, length-append ys zs) in
    sym (take_at xs zs (length xs) refl) ∙ ap (take (length xs)) e ∙ take_at ys zs (length xs) long

module _ (key : ℕ → ℕ) where
  -- the groups of some keys and then those of the next
  groups_append : (x m n : ℕ) (l : List ℕ) → groups_from key x (m + n) l ≡ groups_from key x m l ++ groups_from key (x + m) n l
  unfolding groups_from
  groups_append x zero n l = ap₂ (λ (m y : ℕ). groups_from key y m l) (zero-add n) (sym (add-zero x))
  groups_append x (suc m) n l =
      let next : suc x + m ≡ x + suc m = omega arith in
      let more : suc m + n ≡ suc (m + n) = omega arith in
      ap (λ (k : ℕ). groups_from key x k l) more
      ∙ ap (λ (t : List ℕ). keep (λ a. eqb (key a) x) l ++ t)
      (groups_append (suc x) m n l ∙ ap (λ (y : ℕ). groups_from key (suc x) m l ++ groups_from key y n l) next)
      ∙ sym (append_assoc (keep (λ a. eqb (key a) x) l) (groups_from key (suc x) m l) (groups_from key (x + suc m) n l))

  groups_none : (x n : ℕ) (l : List ℕ) → n ≡ 0 → groups_from key x n l ≡ []
  unfolding groups_from
  groups_none x n l none = rw none refl

  -- the groups from x up to y, and those from y on
  groups_parted : (x y n : ℕ) (l : List ℕ) → x ≤ y → y ≤ x + n
      → groups_from key x n l ≡ groups_from key x (y - x) l ++ groups_from key y (x + n - y) l
  groups_parted x y n l low high =
      let whole : n ≡ y - x + (x + n - y) = omega arith in
      let at : x + (y - x) ≡ y = omega arith in
      ap (λ (m : ℕ). groups_from key x m l) whole ∙ groups_append x (y - x) (x + n - y) l
      ∙ ap (λ (z : ℕ). groups_from key x (y - x) l ++ groups_from key z (x + n - y) l) at

  -- up to the key of the first element there is one group only
  groups_upto : (x n : ℕ) (l : List ℕ) (a : ℕ) → FirstGroup key x n l a
      → keep (λ b. eqb (key b) (key a)) l ≡ groups_from key x (suc (key a) - x) l
  groups_upto x n l a first =
      let upto = groups_from key x (suc (key a) - x) l in
      let beyond = groups_from key (suc (key a)) (x + n - suc (key a)) l in
      append_cancel (keep (λ b. eqb (key b) (key a)) l) upto beyond
      (sym first.split ∙ groups_parted x (suc (key a)) n l (omega (arith, first.low)) (omega (arith, first.high)))

module _ {lay : Layout} {w : List ℕ} {d lo hi : ℕ} where
  -- the first place
  begins_start : lo ≤ hi → RangeBegins lay w d lo hi lo
  begins_start upto =
      record {
        low = omega arith;
        high = upto;
        parted = λ q there x n rest grouped.
            let all : n ≡ x + n - x = omega arith in
            record {
              key = x;
              low = omega arith;
              high = omega arith;
              front = range_none lay w lo lo (omega arith) ∙ sym (groups_none (key_at q d) x (x - x) rest (omega arith));
              back = grouped ∙ ap (λ (m : ℕ). groups_from (key_at q d) x m rest) all;
            };
      }

  -- the last place
  begins_end : lo ≤ hi → RangeBegins lay w d lo hi hi
  begins_end upto =
      record {
        low = upto;
        high = omega arith;
        parted = λ q there x n rest grouped.
            let all : n ≡ x + n - x = omega arith in
            record {
              key = x + n;
              low = omega arith;
              high = omega arith;
              front = grouped ∙ ap (λ (m : ℕ). groups_from (key_at q d) x m rest) all;
              back =
                  range_none lay w hi hi (omega arith)
                  ∙ sym (groups_none (key_at q d) (x + n) (x + n - (x + n)) rest (omega arith));
            };
      }

  -- the end of a range
  begins_step : {i j : ℕ} → RangeBegins lay w d lo hi i → i < hi → RangeEnd lay w d i hi j → RangeBegins lay w d lo hi j
  begins_step {i} {j} begins more end =
      record {
        low = omega (arith, begins.low, end.more);
        high = end.within;
        parted = λ q there x n rest grouped. next q there x n rest (begins.parted q there x n rest grouped);
      }
    where
      next : (q : Query) → RangeThere lay q w lo hi → (x n : ℕ) (rest : List ℕ) → PartedAt lay q w d x n rest lo i hi
          → PartedAt lay q w d x n rest lo j hi
      next q there x n rest at =
          let here : RangeThere lay q w i hi = record { index = there.index; some = more; within = there.within } in
          let own = key_at q d (left_in lay w i) in
          let first : FirstGroup (key_at q d) at.key (x + n - at.key) rest (left_in lay w i) =
          group_first d at.key (x + n - at.key) rest here at.back in
          let parts : Cut lay w i j hi (keep (λ k. eqb (key_at q d k) own) rest)
          (groups_from (key_at q d) (suc own) (at.key + (x + n - at.key) - suc own) rest) =
          group_cut d at.key (x + n - at.key) rest here at.back end in
          let same : at.key + (x + n - at.key) - suc own ≡ x + n - suc own = omega (arith, at.high) in
          let mid : suc own - at.key ≡ x + (suc own - x) - at.key = omega (arith, at.low, first.low) in
          record {
            key = suc own;
            low = omega (arith, at.low, first.low);
            high = omega (arith, first.high, at.high);
            front =
                range_split lay q w lo i j there.index begins.low (omega (arith, end.more)) (omega (arith, end.within, there.within))
                ∙ ap₂ (λ (s t : List ℕ). s ++ t) at.front
                (parts.front ∙ groups_upto (key_at q d) at.key (x + n - at.key) rest (left_in lay w i) first
                ∙ ap (λ (m : ℕ). groups_from (key_at q d) at.key m rest) mid)
                ∙ sym (groups_parted (key_at q d) x at.key (suc own - x) rest at.low (omega (arith, at.low, first.low)));
            back = parts.back ∙ ap (λ (m : ℕ). groups_from (key_at q d) (suc own) m rest) same;
          }

  -- any border of the ranges
  begins_border : {i : ℕ} → lo ≤ hi → Border lay w d lo hi i → RangeBegins lay w d lo hi i
  begins_border upto first_border = begins_start upto
  begins_border upto (next_border at more end) = begins_step (begins_border upto at) more end

  -- an only left set
  pub chosen_only : lo < hi → hi - lo ≡ 1 → RangeChosen lay w d lo hi (record { lo = lo; hi = hi })
  chosen_only some one =
      let next : lo + 1 ≡ hi = omega (arith, some, one) in
      record {
        begins = begins_start (omega (arith, some));
        rise = omega (arith, some);
        within = omega arith;
        end = λ more. subst (λ (j : ℕ). RangeEnd lay w d lo hi j) next (reaching_end (reaching_start some) (omega (arith, next)));
      }

  -- no range at all
  pub chosen_none : lo ≤ hi → RangeChosen lay w d lo hi (record { lo = hi; hi = hi })
  chosen_none upto =
      record { begins = begins_end upto; rise = omega arith; within = omega arith; end = λ more. absurd (omega (arith, more)) }

  -- one of the ranges
  pub chosen_found : {r : Span} → RangeFound lay w d lo hi r → RangeChosen lay w d lo hi r
  chosen_found found =
      record {
        begins = begins_border (omega (arith, found.low, found.end)) found.begins;
        rise = omega (arith, found.end.more);
        within = found.end.within;
        end = λ more. found.end;
      }

  -- the place after the chosen one
  pub chosen_begins : {r : Span} → RangeChosen lay w d lo hi r → RangeBegins lay w d lo hi r.hi
  chosen_begins {r} chosen = by_test (ltb r.lo r.hi) some none
    where
      some : ltb r.lo r.hi ≡ true → RangeBegins lay w d lo hi r.hi
      some test =
          let more : r.lo < r.hi = ltb-true r.lo r.hi test in
          begins_step chosen.begins (omega (arith, chosen.within)) (chosen.end more)

      none : ltb r.lo r.hi ≡ false → RangeBegins lay w d lo hi r.hi
      none test =
          let same : r.lo ≡ r.hi = omega (arith, chosen.rise, ltb-false r.lo r.hi test) in
          subst (λ (i : ℕ). RangeBegins lay w d lo hi i) same chosen.begins
