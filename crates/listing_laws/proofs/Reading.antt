-- The program reads one byte more than the longest file at most, and what follows makes no difference to the text.
use Prim.Native.Nat.{ℕ, ◌+◌}
use mathlib.Core.Path.{◌≡◌, refl, sym, ap, ◌∙◌}
use mathlib.Core.List.{List}
use mathlib.Core.Bool.{Bool, true, false}
use native.Mathlib.Omega.{arith}
use borrow.Author.Tests.{ltb-true, ltb-false}
use lib.Dec.{ltb}
use lib.ListN.{length, take}
use lib.Seq.{length-take-le, take_all}
use Rattle.listing_spec.specs.Listing.{max_file, listing}
use Rattle.listing_spec.proofs.Texts.{listing_long}

pub listing_read : (file : List ℕ) → listing (take (max_file + 1) file) ≡ listing file
listing_read file = by_size (ltb max_file (length file)) refl
  where
    by_size : (b : Bool) → ltb max_file (length file) ≡ b → listing (take (max_file + 1) file) ≡ listing file
    by_size true e =
        let long = ltb-true max_file (length file) e in
        listing_long (take (max_file + 1) file) (omega (arith, length-take-le (max_file + 1) file (omega arith)))
        ∙ sym (listing_long file long)
    by_size false e =
        let few = ltb-false max_file (length file) e in
        ap listing (take_all (max_file + 1) file (omega arith))
