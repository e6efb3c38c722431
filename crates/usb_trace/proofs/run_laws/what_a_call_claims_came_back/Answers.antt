use Rattle.usb_trace.proofs.Claimed.{was_last, came_back, numbers_told}
use Rattle.usb_trace.proofs.run_laws.what_a_call_claims_came_back.Goals as goal

pub returns-clause-rested : goal.returns-clause-rested
returns-clause-rested c = was_last

pub returns-clause-came_back : goal.returns-clause-came_back
returns-clause-came_back c = came_back

pub returns-clause-told : goal.returns-clause-told
returns-clause-told c = numbers_told
