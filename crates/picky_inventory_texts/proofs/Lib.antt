mod LineLemmas
mod GoodLineLemmas
mod SealedLemmas
mod ListingLemmas
mod InventoryLemmas
mod PieceLemmas
