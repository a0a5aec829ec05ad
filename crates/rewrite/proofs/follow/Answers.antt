-- Torn, or a swap. Assumes nothing.
use Rattle.std.proofs.Common.{rules, ◌≡◌, Ok, ap, sym, ◌∙◌}
use Rattle.machine.specs.Refusals.{number_of, told_number}
use Rattle.rewrite.specs.Programs.{flat, records_of, starts_of}
use Rattle.rewrite.specs.Rewrite.{log_record_of}
use Rattle.rewrite.proofs.Records.{records_flat}
use Rattle.rewrite.proofs.Logs.{torn_left, swap_left}
use Rattle.rewrite.proofs.follow.Goals as goal

pub returns-in_err-i : goal.returns-in_err-i
returns-in_err-i c =
    let p = c.args.output.now in
    let t = torn_left (log_record_of c.args.log.now) (records_of p) c.in_err-i.ensures in
    let n : told_number c.from_residual.result ≡ number_of c.in_err-i.field-0.0 = search rules in
    record {
      number = n ∙ t.0;
      bytes = sym (ap flat t.1 ∙ records_flat p);
      starts = c.requires.0.starts ∙ sym (ap (starts_of 0) t.1);
    }

pub returns : goal.returns
returns c =
    let e = swap_left (log_record_of c.args.log.now) (records_of c.args.output.now) (ap Ok c.from.ensures ∙ c.in_ok-i.ensures) in
    record {
      number = c.swap.ensures.number ∙ e.0;
      bytes = c.swap.ensures.bytes ∙ ap flat e.1;
      starts = c.swap.ensures.starts ∙ ap (starts_of 0) e.1;
    }
