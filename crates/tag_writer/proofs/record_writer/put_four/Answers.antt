-- `put_four` meets its contract: four stores one after the other put the bytes that were read.
use mathlib.Core.Path.{◌≡◌, sym, ap, ◌∙◌}
use mathlib.Core.List.{List, [], ◌∷◌}
use Prim.Native.Nat.{ℕ, ◌+◌, ◌≤◌}
use native.Mathlib.Omega.{arith}
use native.Mathlib.Numerals.{towards_suc}
use lib.ListN.{length, take, drop, get_or, set, length-set}
use Rattle.tag_file.proofs.Bytes.{four_bytes}
use lib.Seq.{sets}
use Rattle.tag_writer.proofs.record_writer.put_four.Goals as goal

stores : (file : List ℕ) (at a b c d : ℕ)
    → set (set (set (set file at a) (at + 1) b) (at + 2) c) (at + 3) d ≡ sets file at (a ∷ b ∷ c ∷ d ∷ [])
stores file at a b c d = simp towards_suc

four_stores : (tags : List ℕ) (from : ℕ) (file : List ℕ) (at : ℕ) → from + 4 ≤ length tags
    → set (set (set (set file at (get_or tags from 0)) (at + 1) (get_or tags (from + 1) 0)) (at + 2) (get_or tags (from + 2) 0))
    (at + 3) (get_or tags (from + 3) 0)
    ≡ sets file at (take 4 (drop from tags))
four_stores tags from file at whole =
    stores file at (get_or tags from 0) (get_or tags (from + 1) 0) (get_or tags (from + 2) 0) (get_or tags (from + 3) 0)
    ∙ ap (sets file at) (sym (four_bytes tags from whole))

pub bounds-file-at-2 : goal.bounds-file-at-2
bounds-file-at-2 c = simp length-set (omega arith)

pub bounds-file-at-3 : goal.bounds-file-at-3
bounds-file-at-3 c = simp length-set (omega arith)

pub bounds-file-at-4 : goal.bounds-file-at-4
bounds-file-at-4 c = simp length-set (omega arith)

pub returns : goal.returns
returns c =
    four_stores c.args.tags.now c.args.from c.args.file.now c.args.at c.requires.0
