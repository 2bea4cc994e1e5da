-- Every public function of `word`, and every method of its words, leaves one outcome: its contract gives the result.
use Rattle.std.proofs.Common.{sym, refl, ◌∙◌}
use Rattle.block.specs.Outcome.{OneOutcome}
use Rattle.word.proofs.U16Word.small.Kinds as small16-kinds
use Rattle.word.proofs.U16Word.small.Reads as small16-reads
use Rattle.word.proofs.U32Word.small.Kinds as small32-kinds
use Rattle.word.proofs.U32Word.small.Reads as small32-reads
use Rattle.word.proofs.U16Word.nth.Kinds as nth16-kinds
use Rattle.word.proofs.U16Word.nth.Reads as nth16-reads
use Rattle.word.proofs.U32Word.nth.Kinds as nth32-kinds
use Rattle.word.proofs.U32Word.nth.Reads as nth32-reads
use Rattle.word.proofs.U16Word.plus.Kinds as add16-kinds
use Rattle.word.proofs.U16Word.plus.Reads as add16-reads
use Rattle.word.proofs.U32Word.plus.Kinds as add32-kinds
use Rattle.word.proofs.U32Word.plus.Reads as add32-reads
use Rattle.word.proofs.U16Word.rotl.Kinds as rotl16-kinds
use Rattle.word.proofs.U16Word.rotl.Reads as rotl16-reads
use Rattle.word.proofs.U32Word.rotl.Kinds as rotl32-kinds
use Rattle.word.proofs.U32Word.rotl.Reads as rotl32-reads
use Rattle.word.proofs.U16Word.xor.Kinds as xor16-kinds
use Rattle.word.proofs.U16Word.xor.Reads as xor16-reads
use Rattle.word.proofs.U32Word.xor.Kinds as xor32-kinds
use Rattle.word.proofs.U32Word.xor.Reads as xor32-reads
use Rattle.word.proofs.le16.Kinds as le16-kinds
use Rattle.word.proofs.le16.Reads as le16-reads
use Rattle.word.proofs.le32.Kinds as le32-kinds
use Rattle.word.proofs.le32.Reads as le32-reads
use Rattle.word.proofs.store2_32.Kinds as store2-32-kinds
use Rattle.word.proofs.store2_32.Reads as store2-32-reads
use Rattle.word.proofs.U16Word.store4.Kinds as store4-16-kinds
use Rattle.word.proofs.U16Word.store4.Reads as store4-16-reads
use Rattle.word.proofs.U32Word.store4.Kinds as store4-32-kinds
use Rattle.word.proofs.U32Word.store4.Reads as store4-32-reads

pub small16 : OneOutcome small16-kinds.ps small16-kinds.r small16-reads.Pre small16-reads.Post
small16 κs a h x y = (x.ensures ∙ sym y.ensures, refl)

pub small32 : OneOutcome small32-kinds.ps small32-kinds.r small32-reads.Pre small32-reads.Post
small32 κs a h x y = (x.ensures ∙ sym y.ensures, refl)

pub nth16 : OneOutcome nth16-kinds.ps nth16-kinds.r nth16-reads.Pre nth16-reads.Post
nth16 κs a h x y = (x.ensures ∙ sym y.ensures, refl)

pub nth32 : OneOutcome nth32-kinds.ps nth32-kinds.r nth32-reads.Pre nth32-reads.Post
nth32 κs a h x y = (x.ensures ∙ sym y.ensures, refl)

pub add16 : OneOutcome add16-kinds.ps add16-kinds.r add16-reads.Pre add16-reads.Post
add16 κs a h x y = (x.ensures ∙ sym y.ensures, refl)

pub add32 : OneOutcome add32-kinds.ps add32-kinds.r add32-reads.Pre add32-reads.Post
add32 κs a h x y = (x.ensures ∙ sym y.ensures, refl)

pub rotl16 : OneOutcome rotl16-kinds.ps rotl16-kinds.r rotl16-reads.Pre rotl16-reads.Post
rotl16 κs a h x y = (x.ensures ∙ sym y.ensures, refl)

pub rotl32 : OneOutcome rotl32-kinds.ps rotl32-kinds.r rotl32-reads.Pre rotl32-reads.Post
rotl32 κs a h x y = (x.ensures ∙ sym y.ensures, refl)

pub xor16 : OneOutcome xor16-kinds.ps xor16-kinds.r xor16-reads.Pre xor16-reads.Post
xor16 κs a h x y = (x.ensures ∙ sym y.ensures, refl)

pub xor32 : OneOutcome xor32-kinds.ps xor32-kinds.r xor32-reads.Pre xor32-reads.Post
xor32 κs a h x y = (x.ensures ∙ sym y.ensures, refl)

pub le16 : OneOutcome le16-kinds.ps le16-kinds.r le16-reads.Pre le16-reads.Post
le16 κs a h x y = (x.ensures ∙ sym y.ensures, refl)

pub le32 : OneOutcome le32-kinds.ps le32-kinds.r le32-reads.Pre le32-reads.Post
le32 κs a h x y = (x.ensures ∙ sym y.ensures, refl)

pub store2_32 : OneOutcome store2-32-kinds.ps store2-32-kinds.r store2-32-reads.Pre store2-32-reads.Post
store2_32 κs a h x y = (x.ensures ∙ sym y.ensures, refl)

pub store4_16 : OneOutcome store4-16-kinds.ps store4-16-kinds.r store4-16-reads.Pre store4-16-reads.Post
store4_16 κs a h x y = (x.ensures ∙ sym y.ensures, refl)

pub store4_32 : OneOutcome store4-32-kinds.ps store4-32-kinds.r store4-32-reads.Pre store4-32-reads.Post
store4_32 κs a h x y = (x.ensures ∙ sym y.ensures, refl)
