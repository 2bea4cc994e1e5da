-- Each return is one of the five cases, told by what the two lookups found.
use mathlib.Core.Path.{sym, ◌∙◌}
use Rattle.shift_amend.proofs.Holding.{refuses-file, passes-file, finds-job, lacks-job, told-first, told-second, told-amendment, told-day, told-neither}
use Rattle.shift_amend.proofs.Holding.{looked}
use Rattle.shift_amend.proofs.look_up.Goals as goal

pub returns-then-refuses : goal.returns-then-refuses
returns-then-refuses c =
    looked _ _ _ 1 _ _ c.lookup-one.ensures
    (told-first _ _ _ (refuses-file _ _ c.lookup-one.result c.lookup-one.ensures (sym c.refuses.ensures ∙ c.if-refuses.true)))

pub returns-then-refuses-2 : goal.returns-then-refuses-2
returns-then-refuses-2 c =
    -- the amendment passes
    let one_passes = passes-file _ _ c.lookup-one.result c.lookup-one.ensures (sym c.refuses.ensures ∙ c.if-refuses.false) in
    looked _ _ _ 2 _ _ c.lookup-two.ensures
    (told-second _ _ _ one_passes (refuses-file _ _ c.lookup-two.result c.lookup-two.ensures (sym c.refuses-2.ensures ∙ c.if-refuses-2.true)))

pub returns-then-finds : goal.returns-then-finds
returns-then-finds c =
    let one_passes = passes-file _ _ c.lookup-one.result c.lookup-one.ensures (sym c.refuses.ensures ∙ c.if-refuses.false) in
    -- so does the day's file
    let two_passes = passes-file _ _ c.lookup-two.result c.lookup-two.ensures (sym c.refuses-2.ensures ∙ c.if-refuses-2.false) in
    looked _ _ _ 1 _ _ c.lookup-one.ensures
    (told-amendment _ _ _ one_passes two_passes (finds-job _ _ c.lookup-one.result c.lookup-one.ensures (sym c.finds.ensures ∙ c.if-finds.true)))

pub returns-then-finds-2 : goal.returns-then-finds-2
returns-then-finds-2 c =
    let one_passes = passes-file _ _ c.lookup-one.result c.lookup-one.ensures (sym c.refuses.ensures ∙ c.if-refuses.false) in
    let two_passes = passes-file _ _ c.lookup-two.result c.lookup-two.ensures (sym c.refuses-2.ensures ∙ c.if-refuses-2.false) in
    -- the amendment lacks the job
    let one_lacks = lacks-job _ _ c.lookup-one.result c.lookup-one.ensures (sym c.finds.ensures ∙ c.if-finds.false) in
    looked _ _ _ 2 _ _ c.lookup-two.ensures
    (told-day _ _ _ one_passes two_passes one_lacks (finds-job _ _ c.lookup-two.result c.lookup-two.ensures (sym c.finds-2.ensures ∙ c.if-finds-2.true)))

pub returns : goal.returns
returns c =
    let one_passes = passes-file _ _ c.lookup-one.result c.lookup-one.ensures (sym c.refuses.ensures ∙ c.if-refuses.false) in
    let two_passes = passes-file _ _ c.lookup-two.result c.lookup-two.ensures (sym c.refuses-2.ensures ∙ c.if-refuses-2.false) in
    let one_lacks = lacks-job _ _ c.lookup-one.result c.lookup-one.ensures (sym c.finds.ensures ∙ c.if-finds.false) in
    looked _ _ _ 0 _ _ c.lookup-two.ensures
    (told-neither _ _ _ one_passes two_passes one_lacks (lacks-job _ _ c.lookup-two.result c.lookup-two.ensures (sym c.finds-2.ensures ∙ c.if-finds-2.false)))
