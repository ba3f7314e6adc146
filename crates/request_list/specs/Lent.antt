-- Rules: "Requests". Requests that are lent as a list, as an array of 16.
use Rattle.std.specs.Prelude.{List, take, replicate}
use Rattle.std.proofs.lemmas.List.Edits.{sets}
use Rattle.cutting.specs.Limits.{most_requests}
use Rattle.cutting.specs.declared.Request.{Request}

abbrev pub blank : Request
blank = record { ssrc = 0; begin = 0; count = 0 }

abbrev pub blanks : List Request
blanks = replicate most_requests blank

-- the first 16 of a list, and blank ones behind the last
abbrev pub gathered_of : List Request → List Request
gathered_of rs = sets blanks 0 (take most_requests rs)
