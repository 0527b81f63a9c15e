-- `pool_fill::own_sets::put_own` meets its contract.
use mathlib.Core.Path.{◌≡◌, refl, ap, ◌∙◌}
use Prim.Native.Nat.{ℕ, ◌+◌, ◌-◌}
use native.Mathlib.Omega.{arith}
use lib.ListN.{length, get_or, set}
use Rattle.bit_sets.specs.BitSets.{members}
use Rattle.tag_loader.proofs.record_items.Marks.{unmarked_zeros}
use Rattle.pool_fill.specs.own_sets.Own.{length_by, place_word}
use Rattle.pool_fill.proofs.own_sets.put_own.Goals as goal
use Rattle.pool_fill.proofs.own_sets.put_own.Goals.{After-length_by}

-- how many items the set has by itself, and the length that it takes
owned : (c : After-length_by)
    → let a = c.args in
    c.drain-past.result - a.done.entries ≡ length (members a.marks.now)
owned c = omega (arith, c.drain-past.ensures.written.past)

taken : (c : After-length_by)
    → let a = c.args in
    c.length_by.result ≡ length_by (get_or a.slots.now a.slot 0) (length (members a.marks.now))
taken c =
    let a = c.args in
    c.length_by.ensures ∙ ap (λ (k : ℕ). length_by (get_or a.slots.now a.slot 0) k) (owned c)

pub overflow_add-end : goal.overflow_add-end
overflow_add-end c =
    omega (arith, taken (goal.at.overflow_add-end c).After-length_by, c.requires.room_for_own.few)

pub overflow_cast-ends : goal.overflow_cast-ends
overflow_cast-ends c =
    omega (arith, taken (goal.at.overflow_cast-ends c).After-length_by, c.requires.room_for_own.few)

pub returns : goal.returns
returns c =
    let a = c.args in
    record {
      marks = rw c.drain-past.ensures.emptied (unmarked_zeros (length a.marks.now) c.requires.marks_len);
      lists = record {
        put_slot = ap (λ (k : ℕ). set a.slots.now a.slot (place_word a.done.entries k)) (owned (goal.at.returns c).After-length_by);
        put_number = record { written = refl; past = refl };
        put_end = record {
          written = ap (λ (k : ℕ). set a.ends.now a.done.sets (a.done.entries + k)) (taken (goal.at.returns c).After-length_by);
          past = refl;
        };
        put_items = c.drain-past.ensures.written.written;
        past = ap (λ (k : ℕ). a.done.entries + k) (taken (goal.at.returns c).After-length_by);
      };
    }
