-- The listing at a limit is that of what was read, and whole where the text has room.
use Rattle.std.proofs.Common.{ℕ, ◌≤◌, List, length}
use native.Mathlib.Omega.{arith}
use Rattle.rewrite.specs.Calls.{Below}
use Rattle.listing_text.specs.Grown.{Grown}
use Rattle.listing_text.specs.Listed.{listed_of, lent_output, lent_work, ListsRead}
use Rattle.listing_text.proofs.Longest.{uncut}
use Rattle.listing_text.proofs.Lent.{output_lent}
use Rattle.listing_text.proofs.list_files_at.Goals as goal

-- the fronts of two files, and the listing of them
lists_read : (limit : ℕ) (program log old new : List ℕ) (n : ℕ) → Below 256 program → Below 256 log → length program ≤ 32769 → length log ≤ 32769
    → Grown old 0 (listed_of limit program log lent_output lent_work) new n → ListsRead limit old new n
lists_read limit program log old new n p q h k g =
    record {
      program = program;
      log = log;
      program_bytes = p;
      log_bytes = q;
      program_front = omega arith;
      log_front = omega arith;
      text = g;
      uncut = uncut limit program log lent_output lent_work old new n g (omega (arith, output_lent));
    }

pub returns : goal.returns
unfolding lent_output lent_work
returns g c = lists_read c.args.limit _ _ _ _ _ c.load-program.ensures.below c.load-log.ensures.below (omega arith) (omega arith) c.list.ensures.grown
