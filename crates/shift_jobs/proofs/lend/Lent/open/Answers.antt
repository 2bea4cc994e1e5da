-- The opener borrows the entry's own bytes, so its status is the definition's.
use Rattle.shift_jobs.proofs.Entries.{lent}
use Rattle.shift_jobs.proofs.lend.Lent.open.Goals as goal

pub returns : goal.returns
returns c =
    let l = c.args.self.now in
    lent l.file.now l.ring.now l.index l.row _ _ _ _ _ _ c.args.out.now c.unseal.ensures l.lendable.is_row
    c.key.ensures c.nonce.ensures c.data_of.ensures.bytes c.text_of.ensures.bytes c.tag_of.ensures.bytes
