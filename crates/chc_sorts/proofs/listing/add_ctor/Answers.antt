use Rattle.chc_sorts.proofs.ListingLaws.{begins_more, begins_on}
use Rattle.chc_sorts.proofs.listing.add_ctor.Goals as goal

pub returns-in_err-add_fields-clause-begins : goal.returns-in_err-add_fields-clause-begins
returns-in_err-add_fields-clause-begins c = begins_on c.args.table.now c.add.new.self c.add_fields.new.table (begins_more c.args.table.now _ c.add.new.self c.in_ok-add.ensures.added) c.add_fields.ensures.begins
