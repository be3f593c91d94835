pub mod EthernetLaws
