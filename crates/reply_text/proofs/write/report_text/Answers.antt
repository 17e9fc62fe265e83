use Rattle.reply_text.proofs.Texts.{report_whole}
use Rattle.reply_text.proofs.write.report_text.Goals as goal

pub returns-clause-ok : goal.returns-clause-ok
returns-clause-ok c =
    report_whole c.args.report.now _ _ _ _ _ _ _ _
    (rw c.get.ensures.number at c.in_ok-text.ensures.ok)
    (rw c.len.ensures at c.in_ok-add_count.ensures.ok)
    (rw c.as_slice.ensures at c.in_ok-add_entries.ensures)
    (rw c.len-2.ensures at c.in_ok-add_count-2.ensures.ok)
    (rw c.as_slice-2.ensures at c.in_ok-add_entries-2.ensures)
    (rw c.len-3.ensures at c.in_ok-add_count-3.ensures.ok)
    (rw c.as_slice-3.ensures at c.in_ok-add_contents.ensures)
    (rw (c.as_str.ensures.value, c.in_ok-left.ensures.ok) at c.in_ok-add_text.ensures)
