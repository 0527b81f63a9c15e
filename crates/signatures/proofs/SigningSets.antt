-- The signatures of a collection, set by set: the step and the end of the loop, and both sides one above the other.
use Prim.Native.Nat.{ℕ, suc, ◌+◌, ◌*◌, ◌<◌, ◌≤◌}
use mathlib.Core.Path.{◌≡◌, refl, sym, ap, ap₂, subst, ◌∙◌}
use mathlib.Core.List.{List, [], ◌∷◌}
use mathlib.Core.Logic.{◌≢◌}
use native.Mathlib.Nat.{add-zero}
use native.Mathlib.Numerals.{add-one}
use native.Mathlib.Omega.{arith}
use borrow.Author.Tests.{eqb-true, eqb-false}
use lib.Dec.{eqb}
use lib.ListN.{length, get_or, take, drop}
use lib.Seq.{drop-cons, drop-drop, get_or-drop}
use Rattle.lists.proofs.Bools.{by_test}
use Rattle.lists.proofs.Slices.{frame_less, frame_at}
use Rattle.sets.specs.Limits.{full_words}
use Rattle.sets.specs.Collections.{Collection, between, sets_from, sets_of, sets_in}
use Rattle.sets.specs.Signatures.{signature}
use Rattle.sets.proofs.Between.{length-sets}
use Rattle.signatures.specs.Signing.{double, DoubleStored, Signed, BothRoom, BothSigned}

-- two words below a place up to which nothing changed
pub double_stays : (n i : ℕ) (was is : List ℕ) → take n is ≡ take n was → i + 2 ≤ n → double is i ≡ double was i
double_stays n i was is frame below =
    ap₂ (λ (a b : ℕ). a + full_words * b) (frame_at 0 i n was is (omega arith) frame)
    (frame_at 0 (i + 1) n was is (omega arith) frame)

-- the signatures of the first k sets are written; the others begin at start
pub record SetsSigning (at : ℕ) (ends items was is : List ℕ) (start k : ℕ) : Type 0 where
  pub signed : Signed at k (sets_of ends items) was is
  pub sets : sets_from start (drop k ends) items ≡ drop k (sets_of ends items)
  pub place : k ≤ length ends

pub signing_start : {at : ℕ} {ends items w : List ℕ} → SetsSigning at ends items w w 0 0
signing_start =
    record {
      signed = record { frame = refl; size = refl; signatures = λ k below. absurd (omega arith) };
      sets = refl;
      place = omega arith;
    }

module _ {at : ℕ} {ends items was is : List ℕ} {start k : ℕ} (signing : SetsSigning at ends items was is start k)
    (below : k < length ends) where
  sets_here : drop k (sets_of ends items)
      ≡ between start (get_or ends k 0) items ∷ sets_from (get_or ends k 0) (drop (suc k) ends) items
  unfolding sets_from
  sets_here = sym signing.sets ∙ ap (λ (l : List ℕ). sets_from start l items) (drop-cons ends k 0 below)

  pub set_here : get_or (sets_of ends items) k [] ≡ between start (get_or ends k 0) items
  set_here =
      ap (λ (j : ℕ). get_or (sets_of ends items) j []) (sym (add-zero k))
      ∙ sym (get_or-drop k (sets_of ends items) 0 [])
      ∙ ap (λ (l : List (List ℕ)). get_or l 0 []) sets_here

  sets_next : sets_from (get_or ends k 0) (drop (k + 1) ends) items ≡ drop (k + 1) (sets_of ends items)
  sets_next =
      ap (λ (j : ℕ). sets_from (get_or ends k 0) (drop j ends) items) (add-one k)
      ∙ sym (ap (λ (l : List (List ℕ)). drop 1 l) sets_here)
      ∙ drop-drop 1 k (sets_of ends items)

  pub signing_step : {next : List ℕ} {mark : ℕ} → mark ≡ signature (between start (get_or ends k 0) items)
      → DoubleStored (at + 2 * k) mark is next → SetsSigning at ends items was next (get_or ends k 0) (k + 1)
  signing_step {next} {mark} e stored =
      record {
        signed =
            record {
              frame = frame_less at (at + 2 * k) is next (omega arith) stored.frame ∙ signing.signed.frame;
              size = stored.size ∙ signing.signed.size;
              signatures = λ j h.
                  by_test (eqb j k)
                  (λ same.
                  subst (λ (i : ℕ). double next (at + 2 * i) ≡ signature (get_or (sets_of ends items) i []))
                  (sym (eqb-true j k same))
                  (stored.is ∙ e ∙ ap (λ (l : List ℕ). signature l) (sym set_here)))
                  (λ differ.
                  let other : j ≢ k = eqb-false j k differ in
                  double_stays (at + 2 * k) (at + 2 * j) is next stored.frame (omega arith)
                  ∙ signing.signed.signatures j (omega arith));
            };
        sets = sets_next;
        place = omega arith;
      }

pub signing_end : {at : ℕ} {ends items was is : List ℕ} {start k : ℕ} → SetsSigning at ends items was is start k
    → length ends ≤ k → Signed at (length ends) (sets_of ends items) was is
signing_end {at} {ends} {items} {was} {is} {start} {k} signing past =
    let here : k ≡ length ends = omega (arith, signing.place) in
    subst (λ (n : ℕ). Signed at n (sets_of ends items) was is) here signing.signed

-- the right sets first, the left sets above them
pub both_signed : {right left : ℕ} {rights lefts : Collection} {w v u : List ℕ} → BothRoom right left rights lefts w
    → Signed right (length rights.ends) (sets_in rights) w v → Signed left (length lefts.ends) (sets_in lefts) v u
    → BothSigned right left (sets_in rights) (sets_in lefts) w u
both_signed {right} {left} {rights} {lefts} {w} {v} {u} room low high =
    record {
      frame = frame_less right left v u (omega (arith, room.above)) high.frame ∙ low.frame;
      size = high.size ∙ low.size;
      right = λ s h.
          let below : s < length rights.ends = omega (arith, length-sets 0 rights.ends rights.items) in
          double_stays left (right + 2 * s) v u high.frame (omega (arith, room.above)) ∙ low.signatures s below;
      left = λ k h. high.signatures k (omega (arith, length-sets 0 lefts.ends lefts.items));
    }
