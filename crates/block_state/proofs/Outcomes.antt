-- Every public function of `block_state` leaves one outcome: the two states, the bytes beside them and the count tell the code's state.
use Rattle.std.proofs.Common.{◌≡◌, ℕ, ◌^◌, ◌<◌, drop, sym, refl, ap, ◌∙◌, arith}
use Rattle.block.specs.Outcome.{OneOutcome}
use Rattle.block.specs.declared.Block.{Block}
use Rattle.block.specs.Blocks.{wide}
use Rattle.block.proofs.Lists.{parts_told}
use Rattle.block.proofs.Blocks.{wide_told}
use Rattle.cipher.specs.Cipher.{size_of}
use Rattle.mode.specs.Walk.{States}
use Rattle.block_state.specs.declared.State.{State}
use Rattle.block_state.specs.declared.tag.TagAndCalls.{TagAndCalls}
use Rattle.block_state.specs.Two.{two_of, Holds}
use Rattle.block_state.proofs.start.Kinds as start-kinds
use Rattle.block_state.proofs.start.Reads as start-reads
use Rattle.block_state.proofs.image.Kinds as image-kinds
use Rattle.block_state.proofs.image.Reads as image-reads
use Rattle.block_state.proofs.turn.Kinds as turn-kinds
use Rattle.block_state.proofs.turn.Reads as turn-reads
use Rattle.block_state.proofs.mix.Kinds as mix-kinds
use Rattle.block_state.proofs.mix.Reads as mix-reads
use Rattle.block_state.proofs.tag.tag_of.Kinds as tag-of-kinds
use Rattle.block_state.proofs.tag.tag_of.Reads as tag-of-reads
use Rattle.block_state.proofs.tag.same.Kinds as same-kinds
use Rattle.block_state.proofs.tag.same.Reads as same_Reads

-- both blocks of a state are numbers of 64 bits
pub record Small (s : State) : Type 0 where
  pub ya : s.y.a < 2 ^ 64
  pub yb : s.y.b < 2 ^ 64
  pub za : s.z.a < 2 ^ 64
  pub zb : s.z.b < 2 ^ 64

state_path : {x y u v : Block} {j k : ℕ} → x ≡ y → u ≡ v → j ≡ k → ◌≡◌ {A = State} (record { y = x; z = u; calls = j }) (record { y = y; z = v; calls = k })
state_path p q r = λ i. record { y = p i; z = q i; calls = r i }

-- equal Y and Z, equal bytes beside Y and an equal count: equal states
pub state_told : (suite : ℕ) (r q : State) → Small r → Small q → two_of suite r ≡ two_of suite q
    → drop (size_of suite) (wide r.y) ≡ drop (size_of suite) (wide q.y) → r.calls ≡ q.calls → r ≡ q
state_told suite r q a b e beside made =
    state_path
    (wide_told r.y q.y a.ya a.yb b.ya b.yb (parts_told (size_of suite) (wide r.y) (wide q.y) (ap (λ (w : States). w.Y) e) beside))
    (wide_told r.z q.z a.za a.zb b.za b.zb (ap (λ (w : States). w.Z) e))
    made

pub held_told : (suite : ℕ) (r q : State) (t : States) (n : ℕ) → Small r → Small q → Holds suite r t n → Holds suite q t n → r ≡ q
held_told suite r q t n a b h k = state_told suite r q a b (h.two ∙ sym k.two) (h.clean ∙ sym k.clean) (h.made ∙ sym k.made)

pub start : OneOutcome start-kinds.ps start-kinds.r start-reads.Pre start-reads.Post
start κs a h x y = (held_told _ x.result y.result _ _ (omega arith) (omega arith) x.ensures y.ensures, refl)

pub image : OneOutcome image-kinds.ps image-kinds.r image-reads.Pre image-reads.Post
image κs a h x y = (
  wide_told x.result y.result (omega arith) (omega arith) (omega arith) (omega arith)
      (parts_told (size_of a.0.now.suite) (wide x.result) (wide y.result) (x.ensures.0 ∙ sym y.ensures.0) (x.ensures.1 ∙ sym y.ensures.1)),
  refl,
)

pub turn : OneOutcome turn-kinds.ps turn-kinds.r turn-reads.Pre turn-reads.Post
turn κs a h x y = (held_told _ x.result y.result _ _ (omega arith) (omega arith) x.ensures y.ensures, refl)

pub mix : OneOutcome mix-kinds.ps mix-kinds.r mix-reads.Pre mix-reads.Post
mix κs a h x y = (
  state_path
      (wide_told x.result.y y.result.y (omega arith) (omega arith) (omega arith) (omega arith) (x.ensures.0 ∙ sym y.ensures.0))
      (wide_told x.result.z y.result.z (omega arith) (omega arith) (omega arith) (omega arith) (x.ensures.1.0 ∙ sym y.ensures.1.0))
      (x.ensures.1.1 ∙ sym y.ensures.1.1),
  refl,
)

last_path : {x y : Block} {j k : ℕ} → x ≡ y → j ≡ k → ◌≡◌ {A = TagAndCalls} (record { tag = x; calls = j }) (record { tag = y; calls = k })
last_path p q = λ i. record { tag = p i; calls = q i }

pub tag_of_lem : OneOutcome tag-of-kinds.ps tag-of-kinds.r tag-of-reads.Pre tag-of-reads.Post
tag_of_lem κs a h x y = (
  last_path
      (wide_told x.result.tag y.result.tag (omega arith) (omega arith) (omega arith) (omega arith)
      (parts_told (size_of a.0.now.suite) (wide x.result.tag) (wide y.result.tag) (x.ensures.0 ∙ sym y.ensures.0)
      (x.ensures.1.0 ∙ sym y.ensures.1.0)))
      (x.ensures.1.1 ∙ sym y.ensures.1.1),
  refl,
)

pub same : OneOutcome same-kinds.ps same-kinds.r same_Reads.Pre same_Reads.Post
same κs a h x y = (x.ensures ∙ sym y.ensures, refl)
