mod DraftLemmas
mod LineLemmas
mod RunLemmas
mod ApplyLemmas
