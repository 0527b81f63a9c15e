-- `join_pairs::row_pairs::push` meets its contract: two stores, or none.
use Prim.Native.Nat.{ℕ, ◌+◌, ◌≤◌}
use mathlib.Core.Path.{◌≡◌, refl}
use mathlib.Core.List.{List, []}
use mathlib.Core.Bool.{Bool, true, false}
use native.Mathlib.Numerals.{add-one}
use native.Mathlib.Omega.{arith}
use lib.ListN.{length, set, length-set}
use Rattle.lists.specs.Writing.{Put}
use Rattle.join_spec.specs.PairList.{onto_pair}
use Rattle.join_pairs.specs.row_pairs.Writing.{PushRoom}
use Rattle.join_pairs.proofs.row_pairs.push.Goals as goal

pair_room : {at k s : ℕ} {b : Bool} {w : List ℕ} → PushRoom at k s b w → b ≡ true → at + 2 ≤ length w
pair_room r e = rw e at r.room

put_pair : (at k s : ℕ) (b : Bool) (w : List ℕ) → b ≡ true
    → Put w at (onto_pair b k s []) (at + 2) (set (set w at k) (at + 1) s)
put_pair at k s b w e = rw (e, add-one at) (record { written = refl; past = refl })

put_none : (at k s : ℕ) (b : Bool) (w : List ℕ) → b ≡ false → Put w at (onto_pair b k s []) at w
put_none at k s b w e = rw e (record { written = refl; past = omega arith })

pub bounds-pairs-at : goal.bounds-pairs-at
bounds-pairs-at c = omega (arith, pair_room c.requires c.if-paired.true)

pub bounds-pairs-at-then-paired : goal.bounds-pairs-at-then-paired
bounds-pairs-at-then-paired c = simp length-set (omega (arith, pair_room c.requires c.if-paired.true))

pub returns-then-paired : goal.returns-then-paired
returns-then-paired c =
    let a = c.args in put_pair a.at a.k a.s a.paired a.pairs.now c.if-paired.true

pub returns : goal.returns
returns c =
    let a = c.args in put_none a.at a.k a.s a.paired a.pairs.now c.if-paired.false
