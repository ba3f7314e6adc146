-- Rules: "Refusals". The number of each refusal, as a caller is given it. 0 is no refusal; 15 to 20
-- and 33 to 36 are not used.
use Rattle.std.specs.Prelude.{ℕ}
use Rattle.refusal.specs.declared.Refusal.{Refusal}
use Rattle.refusal.specs.declared.Refusal.TheVariants.{BadMark, NoFreePlace, TooOld, BadStore, NotHeld}
use Rattle.refusal.specs.declared.Refusal.TheVariants.{BadLimit, TooManyRequests, StreamRepeated, BadRange, OutputTooShort}
use Rattle.refusal.specs.declared.Refusal.TheVariants.{BadFileMark, BadFileVersion, RecordCutShort, BadRecord}
use Rattle.refusal.specs.declared.Refusal.TheVariants.{PacketTooShort, BadVersion, BadType, BadLength, Padded, RunsIntoRts, TooManyReports, FillerNotZero, NoBlock, NoNumber}
use Rattle.refusal.specs.declared.Refusal.TheVariants.{BadDatagram, NoPacket, NotRegistered}

abbrev pub number_of : Refusal → ℕ
-- arrivals and the store
number_of BadMark = 1
number_of NoFreePlace = 2
number_of TooOld = 3
number_of BadStore = 4
number_of NotHeld = 5
-- the writer; 10 is the rewriter's too
number_of BadLimit = 6
number_of TooManyRequests = 7
number_of StreamRepeated = 8
number_of BadRange = 9
number_of OutputTooShort = 10
-- the arrival file
number_of BadFileMark = 11
number_of BadFileVersion = 12
number_of RecordCutShort = 13
number_of BadRecord = 14
-- the reader
number_of PacketTooShort = 21
number_of BadVersion = 22
number_of BadType = 23
number_of BadLength = 24
number_of Padded = 25
number_of RunsIntoRts = 26
number_of TooManyReports = 27
number_of FillerNotZero = 28
number_of NoBlock = 29
number_of NoNumber = 30
-- datagrams
number_of BadDatagram = 31
number_of NoPacket = 32
-- sent packets
number_of NotRegistered = 37
