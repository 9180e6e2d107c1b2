pub mod TicketsFollow
