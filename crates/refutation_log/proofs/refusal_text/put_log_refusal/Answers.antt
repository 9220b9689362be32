use Rattle.refutation_log.proofs.refusal_text.put_log_refusal.Goals as goal

pub returns-in-Form : goal.returns-in-Form
returns-in-Form c = rw c.in-Form.is (rw c.as_slice.ensures at c.put_line_number.ensures)

pub returns-in-Name : goal.returns-in-Name
returns-in-Name c = rw c.in-Name.is (rw c.as_slice-in-Name.ensures at c.put_line_number-in-Name.ensures)

pub returns-in-Idle : goal.returns-in-Idle
returns-in-Idle c = rw c.in-Idle.is (rw c.as_slice-in-Idle.ensures at c.put_line_number-in-Idle.ensures)

pub returns-in-Fails : goal.returns-in-Fails
returns-in-Fails c = rw c.in-Fails.is (rw c.as_slice-in-Fails.ensures at c.put_line_number-in-Fails.ensures)

pub returns-in-Unfinished : goal.returns-in-Unfinished
returns-in-Unfinished c = rw c.in-Unfinished.is (rw c.as_slice-in-Unfinished.ensures at c.put_line_number-in-Unfinished.ensures)

pub returns-in-Extra : goal.returns-in-Extra
returns-in-Extra c = rw c.in-Extra.is (rw c.as_slice-in-Extra.ensures at c.put_line_number-in-Extra.ensures)

pub returns-in-Turn : goal.returns-in-Turn
returns-in-Turn c = rw c.in-Turn.is (rw c.as_slice-in-Turn.ensures at c.put_line_number-in-Turn.ensures)

pub returns-in-Unnamed : goal.returns-in-Unnamed
returns-in-Unnamed c = rw c.in-Unnamed.is c.put_unnamed.ensures

pub returns-in-Long : goal.returns-in-Long
returns-in-Long c = rw c.in-Long.is (rw c.as_slice-in-Long.ensures at c.put_rule_line.ensures)

pub returns-in-Ends : goal.returns-in-Ends
returns-in-Ends c = rw c.in-Ends.is c.put_ends.ensures
