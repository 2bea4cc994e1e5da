-- W6 by citation.
use Rattle.shift_search.proofs.Promised.{halves, rows_decide, same_as_lookup, ten_looks, bodies_unread}
use Rattle.promises.specs.Search.{Search}

pub searches : Search
searches = record { halves = halves; rows = rows_decide; lookup = same_as_lookup; looks = ten_looks; bodies = bodies_unread }
