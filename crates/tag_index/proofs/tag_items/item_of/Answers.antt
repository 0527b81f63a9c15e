-- `tag_index::tag_items::item_of` meets its contract: a position whose id has the tag is where it stands, since the tags rise.
use mathlib.Core.Path.{◌≡◌, sym, ap, subst, ◌∙◌}
use Prim.Native.Nat.{ℕ}
use lib.ListN.{get_or}
use Rattle.tag_index.specs.tag_words.Words.{tag_value}
use Rattle.tag_index.specs.Index.{tag_of_id, table_of, Lower}
use Rattle.tag_index.proofs.Ids.{sorted_lower}
use Rattle.tag_index.proofs.tag_items.item_of.Goals as goal

pub returns-in-Ok : goal.returns-in-Ok
returns-in-Ok c =
    let a = c.args in
    let known = c.in-Ok.ensures.within in
    let id = c.in-Ok.id in
    let rank = get_or a.ranks.now id 0 in
    let table = table_of a.index.now a.n in
    let here : tag_of_id a.index.now (get_or a.index.now.ids rank 0) ≡ tag_value a.tag =
    ap (tag_of_id a.index.now) (c.requires.ranked.at id known) ∙ c.in-Ok.ensures.hit in
    subst (λ (r : ℕ). Lower table (tag_value a.tag) r) (sym c.from.ensures)
    (sorted_lower c.requires.sorted rank (tag_value a.tag) (c.requires.ranked.within id known) here)
