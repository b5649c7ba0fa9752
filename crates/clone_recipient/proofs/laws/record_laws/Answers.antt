use Rattle.clone_recipient.proofs.RecordLemmas.{record_begins, record_ends, record_loses, record_sends, record_takes, record_whole}
use Rattle.clone_recipient.proofs.laws.record_laws.Goals as goal

pub returns-clause-begins : goal.returns-clause-begins
returns-clause-begins c = record_begins

pub returns-clause-takes : goal.returns-clause-takes
returns-clause-takes c = record_takes

pub returns-clause-sends : goal.returns-clause-sends
returns-clause-sends c = record_sends

pub returns-clause-loses : goal.returns-clause-loses
returns-clause-loses c = record_loses

pub returns-clause-ends : goal.returns-clause-ends
returns-clause-ends c = record_ends

pub returns-clause-whole : goal.returns-clause-whole
returns-clause-whole c = record_whole
