-- W11 by citation.
use Rattle.shift_amend.proofs.Promised.{in_order, amendment_wins, missing_exactly, part_of_holder, no_rows}
use Rattle.promises.specs.Amendments.{Amendments}

pub amendments : Amendments
amendments = record { order = in_order; wins = amendment_wins; missing = missing_exactly; part = part_of_holder; empty = no_rows }
