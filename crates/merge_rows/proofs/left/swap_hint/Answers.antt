-- `merge_rows::left::swap_hint` meets its contract: the word of a set is one of the hints.
use Prim.Native.Nat.{ℕ, ◌+◌, ◌-◌, ◌*◌, ◌%◌, ◌<◌}
use native.Mathlib.Nat.{mod-lt}
use native.Mathlib.Omega.{arith}
use lib.ListN.{length, get_or, length-set}
use lib.Seq.{take-set-le}
use Rattle.merge_rows.proofs.left.swap_hint.Goals as goal
use Rattle.merge_rows.proofs.left.swap_hint.Goals.{After-shared_slice_known-2-1}

-- the number of a set, and its word among the hints
abbrev number : After-shared_slice_known-2-1 → ℕ
number c =
    let set = c.args.set.now in get_or set 0 0 * 67 + get_or set (length set - 1) 0 + 1021 * length set

abbrev word_at : After-shared_slice_known-2-1 → ℕ
word_at c = c.args.r.hints + number c % c.args.lefts

first_small : (c : After-shared_slice_known-2-1) → get_or c.args.set.now 0 0 < 65536
first_small c = omega (arith, c.type_inv.set 0)

last_small : (c : After-shared_slice_known-2-1)
    → let set = c.args.set.now in get_or set (length set - 1) 0 < 65536
last_small c = omega (arith, c.type_inv.set (length c.args.set.now - 1))

word_low : (c : After-shared_slice_known-2-1) → number c % c.args.lefts < c.args.lefts
word_low c = mod-lt (number c) (omega (arith, c.requires.place))

pub overflow_cast-sum : goal.overflow_cast-sum
overflow_cast-sum c = omega (arith, c.type_inv.set 0)

pub overflow_mul-sum : goal.overflow_mul-sum
overflow_mul-sum c = omega (arith, c.type_inv.set 0)

pub overflow_cast-sum-2 : goal.overflow_cast-sum-2
overflow_cast-sum-2 c = omega (arith, last_small (goal.at.overflow_cast-sum-2 c).After-shared_slice_known-2-1)

pub overflow_add-sum : goal.overflow_add-sum
overflow_add-sum c = omega (arith, first_small (goal.at.overflow_add-sum c).After-shared_slice_known-2-1, last_small (goal.at.overflow_add-sum c).After-shared_slice_known-2-1)

pub overflow_add-sum-2 : goal.overflow_add-sum-2
overflow_add-sum-2 c = omega (arith, first_small (goal.at.overflow_add-sum-2 c).After-shared_slice_known-2-1, last_small (goal.at.overflow_add-sum-2 c).After-shared_slice_known-2-1, c.requires.short)

pub overflow_cast-i-2 : goal.overflow_cast-i-2
overflow_cast-i-2 c = omega (arith, word_low (goal.at.overflow_cast-i-2 c).After-shared_slice_known-2-1, c.requires.few)

pub overflow_add-i : goal.overflow_add-i
overflow_add-i c = omega (arith, word_low (goal.at.overflow_add-i c).After-shared_slice_known-2-1)

pub offset_bounds-work-i : goal.offset_bounds-work-i
offset_bounds-work-i c = omega (arith, word_low (goal.at.offset_bounds-work-i c).After-shared_slice_known-2-1)

pub bounds-work-i : goal.bounds-work-i
bounds-work-i c = omega (arith, word_low (goal.at.bounds-work-i c).After-shared_slice_known-2-1)

pub offset_bounds-work-i-2 : goal.offset_bounds-work-i-2
offset_bounds-work-i-2 c = omega (arith, word_low (goal.at.offset_bounds-work-i-2 c).After-shared_slice_known-2-1)

pub bounds-work-i-2 : goal.bounds-work-i-2
bounds-work-i-2 c = omega (arith, word_low (goal.at.bounds-work-i-2 c).After-shared_slice_known-2-1)

pub returns : goal.returns
returns c =
    let a = c.args in
    let i = word_at (goal.at.returns c).After-shared_slice_known-2-1 in
    record { size = length-set a.work.now i a.k; low = take-set-le a.r.hints a.work.now i a.k (omega arith) }
