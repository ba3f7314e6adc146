pub mod OnePacket
