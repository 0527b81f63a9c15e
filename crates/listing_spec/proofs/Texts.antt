-- The text of a file by its length.
use Prim.Native.Nat.{ℕ, ◌≤◌, ◌<◌}
use mathlib.Core.Path.{◌≡◌}
use mathlib.Core.List.{List}
use borrow.Author.Tests.{lt-ltb, le-ltb}
use lib.ListN.{length}
use Rattle.sets.specs.Refusals.{unless}
use Rattle.sets.specs.declared.Refusal.TheVariants.{ShortWork}
use Rattle.tag_file.specs.Records.{records}
use Rattle.tag_file.specs.Loading.{file_fault}
use Rattle.text.specs.Lines.{refusal_line}
use Rattle.listing_spec.specs.Listing.{max_file, records_text, listing}

module _ (file : List ℕ) where
  pub listing_long : max_file < length file → listing file ≡ refusal_line ShortWork
  unfolding listing
  listing_long long = rw (lt-ltb max_file (length file) long)

  pub listing_short : length file ≤ max_file → listing file ≡ unless refusal_line (file_fault file) (records_text (records file))
  unfolding listing
  listing_short short = rw (le-ltb max_file (length file) short)
