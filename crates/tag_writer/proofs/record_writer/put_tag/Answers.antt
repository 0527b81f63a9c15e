-- `put_tag` meets its contract: a tag is put four bytes by four.
use mathlib.Core.Path.{◌≡◌, sym, ap, ◌∙◌}
use mathlib.Core.List.{List, ◌++◌}
use Prim.Native.Nat.{ℕ, ◌+◌, ◌≤◌}
use native.Mathlib.Nat.{add_assoc}
use native.Mathlib.Omega.{arith}
use lib.ListN.{length, take, drop, length-take, length-drop}
use Rattle.tag_file.specs.Format.{tag_length}
use Rattle.tag_file.proofs.Bytes.{tag_bytes_lem}
use lib.Seq.{sets}
use Rattle.lists.proofs.Filling.{sets_then}
use Rattle.tag_writer.proofs.record_writer.put_tag.Goals as goal

length_four : (tags : List ℕ) (from : ℕ) → from + 4 ≤ length tags → length (take 4 (drop from tags)) ≡ 4
length_four tags from whole = simp (length-take, length-drop) (omega arith)

put_fours : (tags : List ℕ) (from : ℕ) (file : List ℕ) (at : ℕ) → from + tag_length ≤ length tags → at + tag_length ≤ length file
    → sets (sets (sets file at (take 4 (drop from tags))) (at + 4) (take 4 (drop (from + 4) tags))) (at + 8)
    (take 4 (drop (from + 8) tags))
    ≡ sets file at (take tag_length (drop from tags))
put_fours tags from file at whole room =
    let a = take 4 (drop from tags) in
    let b = take 4 (drop (from + 4) tags) in
    let c = take 4 (drop (from + 8) tags) in
    let first : length a ≡ 4 = length_four tags from (omega arith) in
    let second : length b ≡ 4 = length_four tags (from + 4) (omega arith) in
    sym
    (ap (sets file at) (tag_bytes_lem tags from)
    ∙ sets_then file at a (b ++ c) 4 first
    ∙ sets_then (sets file at a) (at + 4) b c 4 second
    ∙ ap (λ (k : ℕ). sets (sets (sets file at a) (at + 4) b) k c) (add_assoc at 4 4))

pub returns : goal.returns
returns c =
    let a = c.args in
    let four : ℕ → List ℕ = λ k. take 4 (drop (a.from + k) a.tags.now) in
    c.put_four-3.ensures
    ∙ ap (λ (l : List ℕ). sets l (a.at + 8) (four 8))
    (c.put_four-2.ensures ∙ ap (λ (l : List ℕ). sets l (a.at + 4) (four 4)) c.put_four.ensures)
    ∙ put_fours a.tags.now a.from a.file.now a.at c.requires.0 c.requires.1
