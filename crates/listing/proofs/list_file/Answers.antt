-- `listing::list_file` meets its contract: a file that is too long, and one that is not.
use mathlib.Core.Path.{sym}
use native.Mathlib.Omega.{arith}
use Rattle.join_text.proofs.Texts.{put_fills, fills_same}
use Rattle.listing_spec.proofs.Texts.{listing_long, listing_short}
use Rattle.listing.proofs.list_file.Goals as goal

pub returns-then-file-gt-MAX_FILE : goal.returns-then-file-gt-MAX_FILE
returns-then-file-gt-MAX_FILE c =
    fills_same (sym (listing_long c.args.file.now c.if-file-gt-MAX_FILE.true))
    (put_fills c.put_refusal.ensures.put (omega (arith, c.put_refusal.ensures.upper_bound, c.put_refusal.auto.text)))

pub returns : goal.returns
returns c =
    fills_same (sym (listing_short c.args.file.now c.if-file-gt-MAX_FILE.false)) c.list_short.ensures
