pub mod Datagrams
