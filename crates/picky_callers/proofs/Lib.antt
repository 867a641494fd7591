mod EnteredLemmas
mod IssuedLemmas
mod LoginLemmas
mod PuttyFileLemmas
mod SignedReplyLemmas
mod UnaskedLemmas
