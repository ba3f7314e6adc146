-- The cases at the edges that are proved of datagrams, computed: one statement over the list. Assumes nothing.
use mathlib.Core.Path.{refl}
use Rattle.lists.specs.All.{All}
use Rattle.lists.specs.Kept.{kept}
use Rattle.octets.specs.Octets.{be16, be32}
use Rattle.packet_header.specs.Header.{start_of}
use Rattle.walk.specs.Walk.{step_at, walk_of}
use Rattle.reader.specs.Reading.{decode_packet}
use Rattle.datagram.specs.Walk.{packet_at_of}
use Rattle.datagram_laws.specs.Starred.{ccfb, padded, nack, bye, other, old_version, too_long, cut, CaseHolds, cases}
use Rattle.walk.specs.Walk as blocks
use Rattle.datagram.specs.Walk as packets

pub starred : All CaseHolds cases
unfolding cases ccfb padded nack bye other old_version too_long cut kept be16 be32 start_of step_at walk_of decode_packet packet_at_of blocks.walk packets.walk
starred =
    ((refl, refl), ((refl, refl), ((refl, refl), ((refl, refl), ((refl, refl), ((refl, refl), ((refl, refl), ((refl, refl), ((refl, refl), ((refl, refl), ((refl, refl), ((refl, refl), ((refl, refl), tt)))))))))))))
