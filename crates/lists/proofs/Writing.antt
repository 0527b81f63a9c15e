-- Numbers written run after run into a list: the invariant of the loops that write, with its start, step and end. It says what is
-- left: what is written and what is still to be written are together what is wanted.
use mathlib.Core.Path.{◌≡◌, refl, sym, ap, ◌∙◌}
use mathlib.Core.List.{List, [], ◌++◌}
use Prim.Native.Nat.{ℕ, ◌+◌, ◌≤◌}
use native.Mathlib.Omega.{arith}
use lib.ListN.{length, drop, length-append}
use lib.Seq.{sets, length-sets}
use Rattle.lists.specs.Writing.{Put}
use Rattle.lists.proofs.Filling.{sets_append, sets_front}

-- one run written after another
pub put_append : {was mid is : List ℕ} {at r end : ℕ} {a b : List ℕ} → Put was at a r mid → Put mid r b end is
    → Put was at (a ++ b) end is
put_append {was} {mid} {is} {at} {r} {end} {a} {b} p q =
    record {
      written =
          q.written ∙ ap (λ (l : List ℕ). sets l r b) p.written ∙ ap (λ (k : ℕ). sets (sets was at a) k b) p.past
          ∙ sym (sets_append was at a b);
      past = omega (arith, p.past, q.past, length-append a b);
    }

-- of what is wanted, rest is still to be written, from place end on
pub record Writing (was : List ℕ) (pos : ℕ) (wanted is : List ℕ) (end : ℕ) (rest : List ℕ) : Type 0 where
  pub left : sets is end rest ≡ sets was pos wanted
  pub total : end + length rest ≡ pos + length wanted
  pub room : pos + length wanted ≤ length was
  pub same : length is ≡ length was

pub writing_start : (was : List ℕ) (pos : ℕ) (wanted : List ℕ) → pos + length wanted ≤ length was
    → Writing was pos wanted was pos wanted
writing_start was pos wanted room = record { left = refl; total = refl; room = room; same = refl }

module _ {was : List ℕ} {pos : ℕ} {wanted is : List ℕ} {end : ℕ} {rest : List ℕ} (w : Writing was pos wanted is end rest) where
  -- there is room for the next run
  pub writing_room : (new later : List ℕ) → rest ≡ new ++ later → end + length new ≤ length is
  writing_room new later e = omega (arith, w.total, w.room, w.same, ap length e, length-append new later)

  pub writing_step : {new later next : List ℕ} {r : ℕ} → rest ≡ new ++ later → Put is end new r next
      → Writing was pos wanted next r later
  writing_step {new} {later} {next} {r} e p =
      record {
        left = ap (λ (l : List ℕ). sets l r later) p.written ∙ ap (λ (k : ℕ). sets (sets is end new) k later) p.past
            ∙ sym (sets_append is end new later) ∙ ap (sets is end) (sym e) ∙ w.left;
        total = omega (arith, w.total, p.past, ap length e, length-append new later);
        room = w.room;
        same = ap length p.written ∙ length-sets is end new ∙ w.same;
      }

  pub writing_end : rest ≡ [] → Put was pos wanted end is
  writing_end e = record { written = ap (sets is end) (sym e) ∙ w.left; past = omega (arith, w.total, ap length e) }

-- a list that was written whole from its beginning
pub written_whole : {was wanted is : List ℕ} {end : ℕ} → Put was 0 wanted end is → length wanted ≤ length was
    → is ≡ wanted ++ drop (length wanted) was
written_whole {was} {wanted} p room = p.written ∙ sets_front wanted was room
