-- A text that was put at the beginning of a lent list fills it.
use Prim.Native.Nat.{ℕ, ◌≤◌}
use mathlib.Core.Path.{◌≡◌, ap, subst}
use mathlib.Core.List.{List}
use native.Mathlib.Omega.{arith}
use lib.ListN.{length, drop, length-append}
use Rattle.lists.specs.Writing.{Put}
use Rattle.lists.proofs.Writing.{written_whole}
use Rattle.join_text.specs.JoinText.{FillsText}

pub put_fills : {text was : List ℕ} {r : ℕ} {is : List ℕ} → Put was 0 text r is → r ≤ length was → FillsText text was r is
put_fills put room =
    record {
      long = omega (arith, put.past);
      room = room;
      list = written_whole put (omega (arith, put.past));
    }

-- the text lies within the list
pub fills_within : {text was : List ℕ} {r : ℕ} {is : List ℕ} → FillsText text was r is → r ≤ length is
fills_within {text} {was} {r} {is} f =
    omega (arith, f.long, ap length f.list, length-append text (drop (length text) was))

-- the same text, said otherwise
pub fills_same : {text other was : List ℕ} {r : ℕ} {is : List ℕ} → text ≡ other → FillsText text was r is → FillsText other was r is
fills_same {text} {other} {was} {r} {is} e f = subst (λ (t : List ℕ). FillsText t was r is) e f
