-- The cases at the edges that are proved of the writer, computed. Assumes nothing.
use mathlib.Core.Path.{◌≡◌, refl}
use mathlib.Core.List.{[], ◌∷◌, map}
use Rattle.refusal.specs.declared.Refusal.TheVariants.{OutputTooShort}
use Rattle.lists.specs.First.{first_from}
use Rattle.octets.specs.Octets.{be16}
use Rattle.places.specs.Place.{read_place}
use Rattle.places.specs.Shape.{shaped}
use Rattle.cells.specs.Cell.{word_time, read_cell}
use Rattle.cell_metrics.specs.Metrics.{cell_metric}
use Rattle.packet.specs.Packet.{encode_metrics, filler, encode_block, encode_blocks, encode_packet}
use Rattle.cutting.specs.Plan.{next_block, filled_from, packets_from}
use Rattle.request_check.specs.Check.{named, in_window_of, check_of}
use Rattle.requests.specs.Requests.{checked}
use Rattle.blocks.specs.Packets.{encode_packets}
use Rattle.sound_writer.specs.Put.{put_packets}
use Rattle.writer.specs.Written.{written}
use Rattle.writer_laws.specs.Read.{walk_lengths}
use Rattle.writer_laws.specs.Starred.{five_three, call, sizes, result}
use Rattle.std.specs.Prelude.{Ok, Err}

pub starred : map result ((32, 60) ∷ (32, 59) ∷ (44, 68) ∷ (48, 48) ∷ [])
    ≡ (Ok (record { packets = 2; octets = 60 }), 32 ∷ 28 ∷ []) ∷ (Err OutputTooShort, []) ∷ (Ok (record { packets = 2; octets = 68 }), 44 ∷ 24 ∷ []) ∷ (Ok (record { packets = 1; octets = 48 }), 48 ∷ []) ∷ []
unfolding five_three call sizes result be16 first_from read_place word_time read_cell cell_metric shaped encode_metrics
    filler encode_block encode_blocks encode_packet next_block filled_from packets_from encode_packets named in_window_of check_of checked put_packets written walk_lengths
starred = refl
