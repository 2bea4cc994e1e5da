-- The verifier borrows the entry's own bytes, so its status is the definition's.
use Rattle.shift_jobs.proofs.Entries.{lent_test}
use Rattle.shift_jobs.proofs.lend.Lent.verify.Goals as goal

pub returns : goal.returns
returns c =
    let l = c.args.self.now in
    lent_test l.file.now l.ring.now l.index l.row _ _ _ _ _ _ c.verify.ensures l.lendable.is_row
    c.key.ensures c.nonce.ensures c.data_of.ensures.bytes c.text_of.ensures.bytes c.tag_of.ensures.bytes
