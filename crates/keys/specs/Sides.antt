-- RFC 9001 section 5.1: the two sides of a connection, each of which protects what it sends with keys of its own.
pub data Side : Type 0 where
  client : Side
  server : Side
