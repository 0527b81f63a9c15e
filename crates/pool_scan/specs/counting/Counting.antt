-- Inner: what is counted over the second of two pooled files, from the first file's counts on, and what is answered at its end.
use Rattle.std.specs.Prelude.{ℕ, ◌+◌, ◌-◌, ◌<◌, ◌≤◌, nat_lt, Option, Some, None, unwrap_or, Err, Ok}
use Rattle.sets.specs.Limits.{max_set_length}
use Rattle.sets.specs.Refusals.{refuse_if, unless}
use Rattle.sets.specs.declared.Refusal.TheVariants.{Overlong}
use Rattle.tag_file.specs.declared.Loaded.{Loaded}
use Rattle.tag_file.specs.declared.Repeats.{Repeats}
use Rattle.tag_scan.specs.totals.Totals.{word_numbers, Limited}
use Rattle.pool_scan.specs.declared.union.United.{United}
use Rattle.pool_scan.specs.declared.counting.Counted.{Counted}
use Rattle.pool_scan.specs.declared.counting.Second.{Second}

-- before the second file: the first file's counts and repeats, and no set that is too long
abbrev pub counted_from : Loaded → Repeats → Counted
counted_from before found = record { total = before; repeats = found; long = Ok tt }

-- the counts with one more right set of the second file, by how many distinct tags the first file's set of its number had, if there
-- is one
abbrev pub united_by : Loaded → United → Option ℕ → Loaded
united_by t u (Some first) =
    record {
      left_sets = t.left_sets;
      right_sets = t.right_sets;
      left_entries = t.left_entries;
      right_entries = t.right_entries + (u.all - first);
      tag_count = u.tag_count;
    }
united_by t u None =
    record {
      left_sets = t.left_sets;
      right_sets = t.right_sets + 1;
      left_entries = t.left_entries;
      right_entries = t.right_entries + u.all;
      tag_count = u.tag_count;
    }

-- with one more right set of the second file, of so many tags, whose record is at a place
abbrev pub counted_by : Counted → United → ℕ → ℕ → Counted
counted_by c u count place =
    record {
      total = united_by c.total u u.first;
      repeats = record { left = c.repeats.left; right = c.repeats.right + (count - u.second) };
      long = unless Err c.long (refuse_if (nat_lt max_set_length u.all) (Overlong place));
    }

-- its counts fit
pub record CountReady (c : Counted) (u : United) (count : ℕ) : Type 0 where
  pub limited : Limited c.total
  pub less : unwrap_or u.first 0 ≤ u.all
  pub few : u.all ≤ max_set_length + max_set_length
  pub distinct : u.second ≤ count
  pub fits : c.repeats.right + (count - u.second) < word_numbers

-- the answer at the end of a file without fault
abbrev pub accepted_by : Counted → Second
accepted_by c = record { answer = Ok (c.total, c.repeats); long = c.long }
