-- Every public function of `aes_plain` leaves one outcome: a word or columns are told by their bytes (`bytes_of`), the table by
-- its rule, the image by the definition.
use denote.RattleType.{RattleType}
use denote.Param.Laws.{Laws, IsCopy}
use mir.Syntax.{Dict}
use mathlib.Core.Path.{◌≡◌, refl, sym, ap, ◌∙◌}
use native.Mathlib.Omega.{arith}
use Rattle.block.specs.Words.{xor}
use Rattle.block.specs.Outcome.{OneOutcome}
use Rattle.block.proofs.Bytes.{bytes_inj}
use Rattle.aes_spec.proofs.Sbox.{table_only}
use Rattle.aes_plain.proofs.Column.{same_columns, told_only}
use Rattle.std.specs.declared.clone.Clone.{Ghosts as Clone}
use Rattle.aes_plain.specs.declared.SubBytes.{Ghosts as SubBytes}
use Rattle.aes_plain.proofs.SubBytes.sub_byte.Kinds as sub-byte-kinds
use Rattle.aes_plain.proofs.SubBytes.sub_byte.Reads as sub-byte-reads
use Rattle.aes_plain.proofs.shift_rows.Kinds as shift-rows-kinds
use Rattle.aes_plain.proofs.shift_rows.Reads as shift-rows-reads
use Rattle.aes_plain.proofs.rot_word.Kinds as rot-word-kinds
use Rattle.aes_plain.proofs.rot_word.Reads as rot-word-reads
use Rattle.aes_plain.proofs.add_round_key.Kinds as add-round-key-kinds
use Rattle.aes_plain.proofs.add_round_key.Reads as add-round-key-reads
use Rattle.aes_plain.proofs.chained.Kinds as chained-kinds
use Rattle.aes_plain.proofs.chained.Reads as chained-reads
use Rattle.aes_plain.proofs.next_key.Kinds as next-key-kinds
use Rattle.aes_plain.proofs.next_key.Reads as next-key-reads
use Rattle.aes_plain.proofs.next_rcon.Kinds as next-rcon-kinds
use Rattle.aes_plain.proofs.next_rcon.Reads as next-rcon-reads
use Rattle.aes_plain.proofs.load.Kinds as load-kinds
use Rattle.aes_plain.proofs.load.Reads as load-reads
use Rattle.aes_plain.proofs.sbox_table.Kinds as sbox-table-kinds
use Rattle.aes_plain.proofs.sbox_table.Reads as sbox-table-reads
use Rattle.aes_plain.proofs.encrypt_with.Kinds as encrypt-with-kinds
use Rattle.aes_plain.proofs.encrypt_with.Reads as encrypt-with-reads
use Rattle.aes_plain.proofs.encrypt.Kinds as encrypt-kinds
use Rattle.aes_plain.proofs.encrypt.Reads as encrypt-reads

-- wherever an engine reads the S-box
pub sub_byte : (S : RattleType) (is : Laws S) (copy : IsCopy S) (sbox : SubBytes S.Denot) (of : Dict) (clone : Clone S.Denot) (cloned : Dict)
    → OneOutcome (sub-byte-kinds.ps S is copy) (sub-byte-kinds.r S is copy) (sub-byte-reads.Pre S is copy sbox of clone cloned)
    (sub-byte-reads.Post S is copy sbox of clone cloned)
sub_byte S is copy sbox of clone cloned κs a h x y = (x.ensures ∙ sym y.ensures, refl)

pub shift_rows : (S : RattleType) (is : Laws S) (copy : IsCopy S) (sbox : SubBytes S.Denot) (of : Dict) (clone : Clone S.Denot) (cloned : Dict)
    → OneOutcome (shift-rows-kinds.ps S is copy) (shift-rows-kinds.r S is copy) (shift-rows-reads.Pre S is copy sbox of clone cloned)
    (shift-rows-reads.Post S is copy sbox of clone cloned)
shift_rows S is copy sbox of clone cloned κs a h x y = (
  told_only x.result y.result (omega arith, omega arith, omega arith, omega arith) (omega arith, omega arith, omega arith, omega arith)
      (x.ensures ∙ sym y.ensures),
  refl,
)

pub rot_word : OneOutcome rot-word-kinds.ps rot-word-kinds.r rot-word-reads.Pre rot-word-reads.Post
rot_word κs a h x y = (bytes_inj 4 (omega arith) (omega arith) (x.ensures ∙ sym y.ensures), refl)

pub add_round_key : OneOutcome add-round-key-kinds.ps add-round-key-kinds.r add-round-key-reads.Pre add-round-key-reads.Post
add_round_key κs a h x y = (
  told_only x.result y.result (omega arith, omega arith, omega arith, omega arith) (omega arith, omega arith, omega arith, omega arith)
      (x.ensures ∙ sym y.ensures),
  refl,
)

pub chained : OneOutcome chained-kinds.ps chained-kinds.r chained-reads.Pre chained-reads.Post
chained κs a h x y =
    let k = a.0 in
    let p : x.result.a ≡ y.result.a = x.ensures.0 ∙ sym y.ensures.0 in
    let q : x.result.b ≡ y.result.b = x.ensures.1 ∙ ap (xor k.b) p ∙ sym y.ensures.1 in
    let r : x.result.c ≡ y.result.c = x.ensures.2 ∙ ap (xor k.c) q ∙ sym y.ensures.2 in
    (same_columns x.result y.result p q r (x.ensures.3 ∙ ap (xor k.d) r ∙ sym y.ensures.3), refl)

pub next_key : (S : RattleType) (is : Laws S) (copy : IsCopy S) (sbox : SubBytes S.Denot) (of : Dict) (clone : Clone S.Denot) (cloned : Dict)
    → OneOutcome (next-key-kinds.ps S is copy) (next-key-kinds.r S is copy) (next-key-reads.Pre S is copy sbox of clone cloned)
    (next-key-reads.Post S is copy sbox of clone cloned)
next_key S is copy sbox of clone cloned κs a h x y =
    let k = a.1.0 in
    let e = x.ensures.0 in
    let f = y.ensures.0 in
    let p : x.result.a ≡ y.result.a = bytes_inj 4 (omega arith) (omega arith) (e.0 ∙ sym f.0) in
    let q : x.result.b ≡ y.result.b = e.1 ∙ ap (xor k.b) p ∙ sym f.1 in
    let r : x.result.c ≡ y.result.c = e.2 ∙ ap (xor k.c) q ∙ sym f.2 in
    (same_columns x.result y.result p q r (e.3 ∙ ap (xor k.d) r ∙ sym f.3), refl)

pub next_rcon : OneOutcome next-rcon-kinds.ps next-rcon-kinds.r next-rcon-reads.Pre next-rcon-reads.Post
next_rcon κs a h x y = (x.ensures ∙ sym y.ensures, refl)

pub load : OneOutcome load-kinds.ps load-kinds.r load-reads.Pre load-reads.Post
load κs a h x y = (
  told_only x.result y.result (omega arith, omega arith, omega arith, omega arith) (omega arith, omega arith, omega arith, omega arith)
      (x.ensures ∙ sym y.ensures),
  refl,
)

pub sbox_table : OneOutcome sbox-table-kinds.ps sbox-table-kinds.r sbox-table-reads.Pre sbox-table-reads.Post
sbox_table κs a h x y = (table_only x.result y.result x.ensures y.ensures, refl)

pub encrypt_with : OneOutcome encrypt-with-kinds.ps encrypt-with-kinds.r encrypt-with-reads.Pre encrypt-with-reads.Post
encrypt_with κs a h x y = (x.ensures ∙ sym y.ensures, refl)

pub encrypt : OneOutcome encrypt-kinds.ps encrypt-kinds.r encrypt-reads.Pre encrypt-reads.Post
encrypt κs a h x y = (x.ensures ∙ sym y.ensures, refl)
