-- `merge_rows::left::store_counters` meets its contract: three words, one after the other.
use Prim.Native.Nat.{ℕ, ◌+◌, ◌*◌, ◌≤◌}
use mathlib.Core.Path.{◌∙◌}
use mathlib.Core.List.{List}
use native.Mathlib.Omega.{arith}
use lib.ListN.{length, set, length-set}
use lib.Seq.{get_or-set_same, get_or-set_other}
use Rattle.lists.proofs.Slices.{changed_none, changed_store}
use Rattle.merge_rows.specs.declared.Met.{Met}
use Rattle.merge_rows.specs.Meeting.{CountersStored}
use Rattle.merge_rows.proofs.left.store_counters.Goals as goal

-- three words in a row
stored : (w : List ℕ) (counters k : ℕ) (m : Met) → counters + 3 * k + 3 ≤ length w
    → CountersStored counters k m w
    (set (set (set w (counters + 3 * k) m.at) (counters + 3 * k + 1) m.dropped) (counters + 3 * k + 2) m.falses)
stored w counters k m room =
    let i = counters + 3 * k in
    let one = set w i m.at in
    let two = set one (i + 1) m.dropped in
    let long-one = length-set w i m.at in
    let long-two = length-set one (i + 1) m.dropped in
    record {
      changed =
          changed_store (i + 2) m.falses (omega arith) (omega arith)
          (changed_store (i + 1) m.dropped (omega arith) (omega arith)
          (changed_store i m.at (omega arith) (omega arith) (changed_none i (i + 3) w)));
      at =
          get_or-set_other two (i + 2) i m.falses 0 (λ e. omega arith)
          ∙ get_or-set_other one (i + 1) i m.dropped 0 (λ e. omega arith)
          ∙ get_or-set_same w i m.at 0 (omega arith);
      dropped =
          get_or-set_other two (i + 2) (i + 1) m.falses 0 (λ e. omega arith)
          ∙ get_or-set_same one (i + 1) m.dropped 0 (omega arith);
      falses = get_or-set_same two (i + 2) m.falses 0 (omega arith);
    }

pub bounds-work-i-2 : goal.bounds-work-i-2
bounds-work-i-2 c = simp length-set (omega arith)

pub bounds-work-i-3 : goal.bounds-work-i-3
bounds-work-i-3 c = simp length-set (omega arith)

pub returns : goal.returns
returns c =
    let a = c.args in
    stored a.work.now a.counters a.k a.m c.requires.room
