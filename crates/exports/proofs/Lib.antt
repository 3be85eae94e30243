pub mod ReplySamples
