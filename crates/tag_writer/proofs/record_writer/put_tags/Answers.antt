use mathlib.Core.Path.{◌≡◌, sym, ap, ◌∙◌}
use mathlib.Core.List.{List}
use Prim.Native.Nat.{ℕ, ◌+◌, ◌*◌, ◌≤◌, ◌<◌}
use native.Mathlib.Omega.{arith}
use lib.ListN.{length, take, drop, get_or, drop_of_length-le, length-take, length-drop}
use Rattle.tag_file.specs.Format.{tag_length, tag_bytes}
use lib.Seq.{sets, length-sets}
use Rattle.tag_writer_spec.specs.Inner.{ItemsFit}
use Rattle.tag_writer_spec.specs.Writer.{item_tags}
use Rattle.lists.proofs.Filling.{sets_then}
use Rattle.tag_writer_spec.proofs.Records.{tags_run}
use Rattle.tag_writer.proofs.record_writer.put_tags.Invariants.{PuttingTags, run}
use Rattle.tag_writer.proofs.record_writer.put_tags.Goals as goal

putting_step : (tags set file₀ : List ℕ) (at : ℕ) (file : List ℕ) (i to : ℕ) (file' : List ℕ)
    → ItemsFit tags set → at + tag_length * length set ≤ length file₀ → ((k : ℕ) → get_or tags k 0 < 256)
    → i < length set → PuttingTags tags set file₀ at file i to
    → file' ≡ sets file to (take tag_length (drop (tag_length * get_or set i 0) tags))
    → PuttingTags tags set file₀ at file' (i + 1) (to + tag_length)
putting_step tags set file₀ at file i to file' fit room low more so e =
    let known : tag_length * get_or set i 0 + tag_length ≤ length tags = fit.known i more in
    let tag = take tag_length (drop (tag_length * get_or set i 0) tags) in
    let n : length tag ≡ tag_length =
    simp (length-take, length-drop) (omega arith) in
    record {
      within = omega arith;
      long = ap length e ∙ length-sets file to tag ∙ so.long;
      place = omega (arith, so.place);
      together =
          rw e
          (sym (sets_then file to tag (run tags set (i + 1)) tag_length n)
          ∙ ap (sets file to) (sym (tags_run tags set i more known low)) ∙ so.together);
    }

putting_end : (tags set file₀ : List ℕ) (at : ℕ) (file : List ℕ) (i to : ℕ)
    → length set ≤ i → PuttingTags tags set file₀ at file i to → file ≡ sets file₀ at (run tags set 0)
unfolding tag_bytes
putting_end tags set file₀ at file i to done so =
    ap (λ (l : List ℕ). sets file to (tag_bytes (item_tags tags l))) (sym (drop_of_length-le set {i = i} done)) ∙ so.together

pub loop-item-preserved : goal.loop-item-preserved
loop-item-preserved c =
    putting_step _ _ _ _ _ _ _ _ c.requires.items_fit c.requires.in_bounds (λ k. (c.type_inv.tags k).fits)
    c.loop-item-test.true c.loop-item.invariant (rw c.from-from.ensures at c.put_tag.ensures)

pub returns : goal.returns
returns c = putting_end _ _ _ _ _ _ _ c.loop-item-test.false c.loop-item.invariant
