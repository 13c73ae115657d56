use Rattle.job_options.proofs.Utf8.{is_utf8-no, is_utf8-yes}
use Rattle.job_options.proofs.options.text_of.Goals as goal

pub returns-in-Ok : goal.returns-in-Ok
returns-in-Ok c = (c.in-Ok.ensures.cases.0, is_utf8-yes c.args.bytes.now c.in-Ok.ensures.cases.1)

pub returns-in-Err : goal.returns-in-Err
returns-in-Err c = is_utf8-no c.args.bytes.now c.in-Err.ensures.cases.0
