-- A buffer that is filled from the front, one list of several: what is written, and what is left.
use Prim.Native.Nat.{ℕ, suc, ◌+◌, ◌≤◌, ◌<◌}
use native.Mathlib.Omega.{arith}
use native.Mathlib.Numerals.{add-one}
use mathlib.Core.Path.{◌≡◌, refl, ap, ◌∙◌}
use mathlib.Core.Bool.{Bool, true, false, ◌&&◌, cond}
use mathlib.Core.List.{List, [], ◌∷◌, ◌++◌}
use lib.ListN.{length, take, drop, get_or, set, length-append, length-drop}
use lib.Seq.{drop-cons, take-suc, take-length, length-take-le, set_at, append_snoc}
use Rattle.shift_compare.specs.Kept.{on_list}

-- of the list `whole`, c are counted and `rest` is left; the buffer holds them where it is written
pub record Filled (write : Bool) (whole rest buffer₀ : List ℕ) (c : ℕ) (buffer : List ℕ) : Type 0 where
  pub within : c ≤ length whole
  pub left : rest ≡ drop c whole
  pub held : buffer ≡ cond write (take c whole ++ drop c buffer₀) buffer₀

pub filled-start : (write : Bool) (whole buffer₀ : List ℕ) → Filled write whole whole buffer₀ 0 buffer₀
filled-start true whole buffer₀ = record { within = omega arith; left = refl; held = refl }
filled-start false whole buffer₀ = record { within = omega arith; left = refl; held = refl }

module _ (whole rest buffer₀ : List ℕ) (c x : ℕ) (q : x ∷ rest ≡ drop c whole) where
  pub more : c < length whole
  more = omega (arith, simp length-drop at (ap length q))

  next : (x ≡ get_or whole c 0) × (rest ≡ drop (suc c) whole)
  next =
      let e = q ∙ drop-cons whole c 0 more in
      ((cc), (cc))

  put : (buffer : List ℕ) → length whole ≤ length buffer₀ → buffer ≡ take c whole ++ drop c buffer₀
      → set buffer c x ≡ take (c + 1) whole ++ drop (c + 1) buffer₀
  put buffer room h =
      rw (
        h,
        add-one,
        take-suc whole c 0 more,
        drop-cons buffer₀ c 0 (omega (arith, more)),
        set_at (take c whole) (get_or buffer₀ c 0) (drop (suc c) buffer₀) x c (length-take-le c whole (omega (arith, more))),
        ← next.0,
        append_snoc,
      )

pub filled-step : (write yes : Bool) (whole rest buffer₀ buffer : List ℕ) (c x : ℕ) → (write ≡ true → length whole ≤ length buffer₀)
    → Filled write whole (cond yes (x ∷ rest) rest) buffer₀ c buffer → Filled write whole rest buffer₀ (cond yes (c + 1) c)
    (cond (yes && write) (set buffer c x) buffer)
filled-step write false whole rest buffer₀ buffer c x room h = h
filled-step false true whole rest buffer₀ buffer c x room h =
    record { within = omega (arith, more whole rest buffer₀ c x h.left); left = rw add-one (next whole rest buffer₀ c x h.left).1; held = h.held }
filled-step true true whole rest buffer₀ buffer c x room h =
    record {
      within = omega (arith, more whole rest buffer₀ c x h.left);
      left = rw add-one (next whole rest buffer₀ c x h.left).1;
      held = put whole rest buffer₀ c x h.left buffer (room refl) h.held;
    }

pub filled-length : (write : Bool) (whole rest buffer₀ buffer : List ℕ) (c : ℕ) → (write ≡ true → length whole ≤ length buffer₀)
    → Filled write whole rest buffer₀ c buffer → length buffer ≡ length buffer₀
filled-length false whole rest buffer₀ buffer c room h = ap length h.held
filled-length true whole rest buffer₀ buffer c room h =
    let r = room refl in
    ap length h.held ∙ simp (length-append, length-take-le c whole h.within, length-drop) (omega (arith, h.within))

-- where the next is to be put, there is room
pub filled_room : (write : Bool) (whole rest buffer₀ buffer : List ℕ) (c x : ℕ) → (write ≡ true → length whole ≤ length buffer₀)
    → Filled write whole (x ∷ rest) buffer₀ c buffer → write ≡ true → c < length buffer
filled_room write whole rest buffer₀ buffer c x room h w =
    omega (arith, more whole rest buffer₀ c x h.left, room w, filled-length write whole (x ∷ rest) buffer₀ buffer c room h)

pub filled-end : (write : Bool) (whole buffer₀ buffer : List ℕ) (c : ℕ) → Filled write whole [] buffer₀ c buffer → (c ≡ length whole)
    × (buffer ≡ cond write (on_list whole buffer₀) buffer₀)
filled-end write whole buffer₀ buffer c h =
    let e : c ≡ length whole = omega (arith, h.within, simp length-drop at (ap length h.left)) in
    (e, h.held ∙ rw (e, take-length))
