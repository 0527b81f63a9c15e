-- `pool_loader::second_file::judge` meets its contract: by the first file, or by both.
use Rattle.pool_scan.proofs.right_slots.Accepted.{slottable}
use Rattle.pool_loader.proofs.second_file.Answers.{first_taken, first_refused, second_limited, second_decided}
use Rattle.pool_loader.proofs.second_file.judge.Goals as goal

pub returns-in_default : goal.returns-in_default
returns-in_default c lent lengths =
    first_refused c.args.first.now c.args.second.now lent c.in_default.field-0 c.requires.scanned c.in_default.is

pub index_right-requires : goal.index_right-requires
index_right-requires c =
    let t = first_taken c.args.first.now _ _ c.requires.scanned c.in-Ok.is in
    record {
      used_value = c.requires.unused;
      counts_len = c.requires.counts_size;
      slots_len = c.requires.slots_size;
      slottable = slottable c.args.first.now t.clean (λ i. (c.type_inv.first i).fits);
    }

pub scan_second-scanned-requires : goal.scan_second-scanned-requires
scan_second-scanned-requires c =
    let t = first_taken c.args.first.now _ _ c.requires.scanned c.in-Ok.is in
    record {
      taken = t.taken;
      repeated = t.repeated;
      slottable = slottable c.args.first.now t.clean (λ i. (c.type_inv.first i).fits);
      slotted = c.index_right.ensures;
    }

pub decide-requires : goal.decide-requires
decide-requires c =
    let t = first_taken c.args.first.now _ _ c.requires.scanned c.in-Ok.is in
    second_limited c.args.first.now c.args.second.now t.clean c.scan_second-scanned.ensures

pub returns : goal.returns
returns c lent lengths =
    let t = first_taken c.args.first.now _ _ c.requires.scanned c.in-Ok.is in
    second_decided c.args.first.now c.args.second.now t.clean c.scan_second-scanned.ensures lent c.index_right.ensures.noted
    c.index_right.ensures.counted lengths c.decide.ensures
