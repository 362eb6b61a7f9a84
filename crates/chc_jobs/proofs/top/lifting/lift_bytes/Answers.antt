use Rattle.chc_jobs.proofs.top.lifting.lift_bytes.Goals as goal

pub returns-in-Err-Script-clause-refused : goal.returns-in-Err-Script-clause-refused
returns-in-Err-Script-clause-refused c =
    let refused = rw c.in-Err-Script.field-0-is at c.in-Err-Script.ensures.refused in
    rw c.bytes-script.ensures at refused
