-- `pool_loader::second_file::pool_second` meets its contract: by the ends of a call.
use mathlib.Core.Path.{refl, sym, ◌∙◌}
use Prim.Native.Nat.{ℕ}
use lib.ListN.{length-replicate}
use Rattle.sets.specs.Limits.{max_sets}
use Rattle.tag_file.specs.Loading.{Lists, lists_of}
use Rattle.pool_scan.specs.right_slots.Slots.{blocks}
use Rattle.pool_loader.proofs.second_file.Ends.{call_refused, call_filled}
use Rattle.pool_loader.proofs.second_file.pool_second.Goals as goal
use Rattle.pool_loader.proofs.second_file.pool_second.Goals.{Start}

-- the lists that were lent
abbrev lent : Start → Lists
lent s =
    let a = s.args in
    lists_of a.tags.now a.left_numbers.now a.left_ends.now a.left_items.now
    a.right_numbers.now a.right_ends.now a.right_items.now

pub judge-judged-requires : goal.judge-judged-requires
judge-judged-requires c =
    record {
      scanned = c.requires;
      unused = refl;
      counts_size = length-replicate {A = ℕ} blocks 0;
      slots_size = length-replicate {A = ℕ} max_sets 0;
    }

-- each list is as long as it was: so says the call, of its parameters in their order
pub shape_of-tags-in_default : goal.shape_of-tags-in_default
shape_of-tags-in_default c = c.clear_lists.auto.tags

pub shape_of-left_numbers-in_default : goal.shape_of-left_numbers-in_default
shape_of-left_numbers-in_default c = c.clear_lists.auto.left_numbers

pub shape_of-left_ends-in_default : goal.shape_of-left_ends-in_default
shape_of-left_ends-in_default c = c.clear_lists.auto.left_ends

pub shape_of-left_items-in_default : goal.shape_of-left_items-in_default
shape_of-left_items-in_default c = c.clear_lists.auto.left_items

pub shape_of-right_numbers-in_default : goal.shape_of-right_numbers-in_default
shape_of-right_numbers-in_default c = c.clear_lists.auto.right_numbers

pub shape_of-right_ends-in_default : goal.shape_of-right_ends-in_default
shape_of-right_ends-in_default c = c.clear_lists.auto.right_ends

pub shape_of-right_items-in_default : goal.shape_of-right_items-in_default
shape_of-right_items-in_default c = c.clear_lists.auto.right_items

pub returns-in_default : goal.returns-in_default
returns-in_default c =
    call_refused c.args.first.now c.args.second.now (lent (goal.at.returns-in_default c).Start) c.in_default.field-0 (c.judge-judged.ensures (lent (goal.at.returns-in_default c).Start) refl).answered c.in_default.is
    c.clear_lists.ensures

pub fill_pooled-requires : goal.fill_pooled-requires
fill_pooled-requires c =
    (c.judge-judged.ensures (lent (goal.at.fill_pooled-requires c).Start) refl).fillable _ _ c.in-Ok.is

pub shape_of-tags : goal.shape_of-tags
shape_of-tags c = c.fill_pooled.auto.tags

pub shape_of-left_numbers : goal.shape_of-left_numbers
shape_of-left_numbers c = c.fill_pooled.auto.left_numbers

pub shape_of-left_ends : goal.shape_of-left_ends
shape_of-left_ends c = c.fill_pooled.auto.left_ends

pub shape_of-left_items : goal.shape_of-left_items
shape_of-left_items c = c.fill_pooled.auto.left_items

pub shape_of-right_numbers : goal.shape_of-right_numbers
shape_of-right_numbers c = c.fill_pooled.auto.right_numbers

pub shape_of-right_ends : goal.shape_of-right_ends
shape_of-right_ends c = c.fill_pooled.auto.right_ends

pub shape_of-right_items : goal.shape_of-right_items
shape_of-right_items c = c.fill_pooled.auto.right_items

pub returns : goal.returns
returns c =
    rw c.in-Ok.is
    (call_filled c.args.first.now c.args.second.now (lent (goal.at.returns c).Start) _ _
    (sym (c.judge-judged.ensures (lent (goal.at.returns c).Start) refl).answered ∙ c.in-Ok.is)
    c.fill_pooled.ensures)
