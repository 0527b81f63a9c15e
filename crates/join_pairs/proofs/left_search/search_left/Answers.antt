-- `join_pairs::left_search::search_left` meets its contract: an empty left set has no pair, any other those with the candidates that contain
-- it.
use mathlib.Core.Path.{refl}
use native.Mathlib.Omega.{arith}
use Rattle.lists.proofs.Slices.{changed_none}
use Rattle.join_pairs.proofs.left_search.Finding.{ranks_there, find_there, empty_put, shortlist_room, shortlist_put}
use Rattle.join_pairs.proofs.left_search.search_left.Goals as goal

pub probe_left-p-requires : goal.probe_left-p-requires
probe_left-p-requires c =
    record { query = c.requires.some_query.query; holds = c.requires.some_query.holds.left }

pub shape_of-work-then-p : goal.shape_of-work-then-p
shape_of-work-then-p c = refl

pub returns-then-p : goal.returns-then-p
returns-then-p c =
    let a = c.args in
    record {
      wrote = record {
        changed = changed_none a.lay.slots a.lay.row_starts a.work.now;
        wrote = λ q there. empty_put c.probe_left-p.ensures there (omega (arith, c.if-p.true));
      };
      clear = c.requires.clear_2;
    }

pub pivot-r-requires : goal.pivot-r-requires
pivot-r-requires c =
    record {
      query = c.requires.some_query.query;
      holds = ranks_there c.probe_left-p.ensures c.requires.some_query.holds.left (omega (arith, c.if-p.false));
    }

pub find_candidates-c-requires : goal.find_candidates-c-requires
find_candidates-c-requires c =
    record {
      some_query = record {
        query = c.requires.some_query.query;
        holds = find_there c.probe_left-p.ensures c.requires.some_query.holds.left c.pivot-r.ensures;
      };
      clear_2 = c.requires.clear_2;
    }

pub write_row-requires : goal.write_row-requires
write_row-requires c =
    record {
      query = c.requires.some_query.query;
      holds =
          shortlist_room c.probe_left-p.ensures c.pivot-r.ensures c.find_candidates-c.ensures.listed
          c.requires.some_query.holds;
    }

pub returns : goal.returns
returns c =
    record {
      wrote = record {
        changed = c.find_candidates-c.ensures.listed.changed;
        wrote = λ q there.
            shortlist_put c.probe_left-p.ensures c.pivot-r.ensures c.find_candidates-c.ensures.listed there
            (c.write_row.ensures q (shortlist_room c.probe_left-p.ensures c.pivot-r.ensures c.find_candidates-c.ensures.listed there));
      };
      clear = c.find_candidates-c.ensures.clear;
    }
