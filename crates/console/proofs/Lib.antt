mod Streamed
