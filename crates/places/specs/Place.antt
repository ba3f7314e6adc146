-- Rules: "What a store means", "Store words". How a place's 64-bit word stores the stream that it
-- holds (rule "Place word"). Any word reads as free or held.
--   word / 2^48          1 where the place is held; any other word reads as free
--   word / 2^16 % 2^32   the SSRC of the stream
--   word % 2^16          its highest sequence number
use Rattle.std.specs.Prelude.{ℕ, ◌+◌, ◌-◌, ◌*◌, ◌/◌, ◌%◌, ◌^◌, Bool, true, false, cond, List, length, get_or, eqb}
use Rattle.lists.specs.First.{first_from}
use Rattle.std.specs.Prelude.{Option, Some, None}
use Rattle.places.specs.declared.Stream.{Stream}

-- the bit of a held place
abbrev pub held : ℕ
held = 2 ^ 48

-- the SSRC stands above the 16 bits of the highest number, and has 32 bits
abbrev pub ssrc_unit : ℕ
ssrc_unit = 2 ^ 16

abbrev pub ssrcs : ℕ
ssrcs = 2 ^ 32

-- the word of a held place
abbrev pub place_word : ℕ → ℕ → ℕ
place_word ssrc highest = held + ssrc_unit * ssrc + highest

abbrev pub ssrc_of : ℕ → ℕ
ssrc_of word = word / ssrc_unit % ssrcs

abbrev pub highest_of : ℕ → ℕ
highest_of word = word % ssrc_unit

unfoldable pub read_place : ℕ → Option Stream
read_place word = cond (eqb (word / held) 1) (Some (record { ssrc = ssrc_of word; highest = highest_of word })) None

-- what the place k holds; free past the end
abbrev pub place_at : List ℕ → ℕ → Option Stream
place_at places k = read_place (get_or places k 0)

-- the highest number that the place k keeps
abbrev pub highest_at : List ℕ → ℕ → ℕ
highest_at places k = highest_of (get_or places k 0)

abbrev pub is_stream : ℕ → Option Stream → Bool
is_stream ssrc None = false
is_stream ssrc (Some s) = eqb s.ssrc ssrc

abbrev pub is_free : Option Stream → Bool
is_free None = true
is_free (Some s) = false

-- the place k holds the stream
abbrev pub holds : List ℕ → ℕ → ℕ → Bool
holds places ssrc k = is_stream ssrc (place_at places k)

abbrev pub free : List ℕ → ℕ → Bool
free places k = is_free (place_at places k)

-- the first place with the index i or a higher one that holds the stream
abbrev pub find_from : List ℕ → ℕ → ℕ → Option ℕ
find_from places ssrc i = first_from (holds places ssrc) i (length places - i)

-- rule "Any content": where two places hold the stream, the lower one is found
abbrev pub find_of : List ℕ → ℕ → Option ℕ
find_of places ssrc = first_from (holds places ssrc) 0 (length places)

-- the lowest free place
abbrev pub free_of : List ℕ → Option ℕ
free_of places = first_from (free places) 0 (length places)
