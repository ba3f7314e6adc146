-- Rules: "Rewriter". What holds of a packet that was rewritten: its octets are read as those of the
-- packet before.
use Rattle.std.specs.Prelude.{ℕ, ◌≡◌, List, length, take, drop}
use Rattle.reader.specs.Reading.{decode_packet, read_of}
use Rattle.block_reader.specs.Blocks.{read_block}
use Rattle.metric_reader.specs.Metrics.{read_metric}

-- reading the octets t gives the answers that reading s gives: sender, RTS and number of blocks; each block;
-- each metric's number and case
pub record SameAnswers (s t : List ℕ) : Type 0 where
  pub read : read_of (decode_packet t) ≡ read_of (decode_packet s)
  pub block : (k : ℕ) → read_block t k ≡ read_block s k
  pub metric : (k j : ℕ) → read_metric t k j ≡ read_metric s k j

-- n octets were written, as many as s has: the same is read in them, and the output's others stay
pub record Rewritten (s entry exit : List ℕ) (n : ℕ) : Type 0 where
  pub size : n ≡ length s
  pub same : SameAnswers s (take n exit)
  pub others : drop n exit ≡ drop n entry
  pub long : length exit ≡ length entry
